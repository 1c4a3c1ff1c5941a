use Rattle.mesh_run.proofs.Common.{◌≡◌, ◌<◌, ◌≤◌, length, IsReady, Turning, at}
use Rattle.mesh_run.proofs.turns.turns.turn_on.Given as goal

-- so many turns were done, below the end
abbrev pub invariant-loop-done : goal.invariant-loop-done
invariant-loop-done g l = record {
  turns : Turning l.setup.end (length l.setup.ports) (at (g.M.DeferringRouter.state l.fn.router) 0 (length l.setup.ports))
      (at (g.M.DeferringRouter.state l.router) l.greatest (length l.setup.ports)) l.done 0 l.greatest
      (g.C.Clock.moments l.fn.clock) (g.C.Clock.moments l.clock) (g.A.Air.reports l.fn.air) (g.A.Air.reports l.air) l.fn.tally l.tally;
  going : l.greatest < l.setup.end;
  ready : IsReady (g.M.DeferringRouter.state l.router) (g.A.Air.attached l.air) l.greatest;
  attached : g.A.Air.attached l.air ≡ g.A.Air.attached l.fn.air;
  later : g.A.Air.faults l.fn.air ≤ g.A.Air.faults l.air;
  longest : length l.buffers.frame.items ≡ 65507;
}
