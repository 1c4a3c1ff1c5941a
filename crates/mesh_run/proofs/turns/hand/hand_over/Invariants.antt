use Rattle.mesh_run.proofs.Common.{◌≡◌, ◌+◌, ◌≤◌, take, Hands}
use Rattle.mesh_run.proofs.turns.hand.hand_over.Given as goal

-- so many frames are handed over
abbrev pub invariant-loop-i : goal.invariant-loop-i
invariant-loop-i g l = record {
  hands : Hands (take l.i l.out) (g.A.Air.reports l.fn.air) (g.A.Air.reports l.air) l.fn.tally l.tally;
  attached : g.A.Air.attached l.air ≡ g.A.Air.attached l.fn.air;
  later : g.A.Air.faults l.fn.air ≤ g.A.Air.faults l.air;
  sent : l.tally.sent ≤ l.fn.tally.sent + l.i;
  faults : l.tally.faults ≤ l.fn.tally.faults + l.i;
}
