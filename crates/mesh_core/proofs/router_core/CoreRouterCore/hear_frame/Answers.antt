use Rattle.mesh_core.proofs.Common.{arith, on_ok_weaker, subst, State, Hear, Step}
use Rattle.mesh_core.proofs.router_core.CoreRouterCore.hear_frame.Goals as goal

pub returns-clause-step : goal.returns-clause-step
returns-clause-step g c =
    on_ok_weaker c.hear_until.result (λ (whole, step, kept).
    subst (λ (s : State). Step c.args.self.now.state (Hear c.args.arrival c.args.frame.now) c.hear_until.new.out s) (kept.from_then (omega arith)) step) c.hear_until.ensures.step
