use Rattle.mesh_dump.proofs.Common.{◌≤◌, ◌-◌, List, ℕ, length, drop, concat, lines}
use Rattle.std.specs.Io.KnownBytes.{Appends}
use Rattle.mesh_dump.proofs.Written.{Listed}
use Rattle.mesh_dump.proofs.listing.write_lines.Given as goal

-- what was put are the listings of the lines before this place
abbrev pub invariant-lines : goal.invariant-lines
invariant-lines g l = record {
  within : l.at ≤ length l.input;
  few : l.number ≤ l.at;
  fewer : l.refused ≤ l.number;
  later : g.O.Sink.faults l.fn.out ≤ g.O.Sink.faults l.out;
  listed : (pieces : List (List ℕ)) × Listed l.recode (lines l.input) (lines (drop l.at l.input)) l.number l.refused pieces
      × Appends (g.O.Sink.content l.fn.out) (g.O.Sink.content l.out) (concat pieces);
}

abbrev pub decreases-lines : goal.decreases-lines
decreases-lines g l = length l.input - l.at
