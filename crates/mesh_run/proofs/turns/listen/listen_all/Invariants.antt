use Rattle.mesh_run.proofs.Common.{◌≡◌, ◌≤◌, [], length, IsReady, Going, at}
use Rattle.mesh_run.proofs.turns.listen.listen_all.Given as goal

-- so many interfaces were heard
abbrev pub invariant-loop-iface : goal.invariant-loop-iface
invariant-loop-iface g l = record {
  goes : Going l.moment.end l.count (at (g.M.DeferringRouter.state l.fn.router) l.moment.now 0) (at (g.M.DeferringRouter.state l.router) l.moment.now l.iface) []
      (g.A.Air.reports l.fn.air) (g.A.Air.reports l.air) l.fn.tally l.tally;
  ready : IsReady (g.M.DeferringRouter.state l.router) (g.A.Air.attached l.air) l.moment.now;
  attached : g.A.Air.attached l.air ≡ g.A.Air.attached l.fn.air;
  later : g.A.Air.faults l.fn.air ≤ g.A.Air.faults l.air;
  longest : length l.buffers.frame.items ≡ 65507;
}
