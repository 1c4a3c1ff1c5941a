use Rattle.mesh_run.proofs.Common.{◌≡◌, map, take, TellsMore, attached_report}
use Rattle.mesh_run.proofs.turns.attach.attach_all.Given as goal

-- so many ports are attached, and told, and none failed
abbrev pub invariant-loop-i : goal.invariant-loop-i
invariant-loop-i g l = record {
  attached : g.A.Air.attached l.air ≡ l.i;
  told : TellsMore (g.A.Air.reports l.fn.air) (g.A.Air.reports l.air) (map attached_report (take l.i l.ports));
  no_fault : g.A.Air.faults l.air ≡ g.A.Air.faults l.fn.air;
}
