use Rattle.mesh_report.proofs.Common.{◌≡◌, ◌++◌, take, flat_map, Grows}
use Rattle.mesh_report.proofs.lines.put_each.Given as goal

abbrev pub invariant-loop-item : goal.invariant-loop-item
invariant-loop-item g l = record {
  wrote : l.out ++ l.line ≡ (l.initial.out ++ l.initial.line) ++ flat_map g.T.Listed.text (take l.item-index l.items);
  kept : Grows l.initial.out l.out;
}
