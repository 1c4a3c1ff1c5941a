use Rattle.mesh_addr.proofs.Common.{◌≡◌, ◌+◌, ◌*◌, ◌-◌, ◌≤◌, parts_end}
use Rattle.mesh_addr.proofs.fields.after_parts.Given as goal

abbrev pub invariant-loop : goal.invariant-loop
invariant-loop l = record {
  reads : parts_end (l.fn.count - l.counter) l.place l.fn.end l.size ≡ parts_end l.fn.count l.fn.at l.fn.end l.size;
  place : l.place ≡ l.fn.at + l.counter * l.size;
  within : l.place ≤ l.fn.end;
}
