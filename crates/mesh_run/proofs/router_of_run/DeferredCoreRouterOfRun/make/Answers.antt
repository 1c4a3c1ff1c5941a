use Rattle.mesh_run.proofs.Common.{subst, sym, State, if_ok_weaker, IsOpening}
use Rattle.mesh_run.proofs.router_of_run.DeferredCoreRouterOfRun.make.Goals as goal

pub returns : goal.returns
returns g c = if_ok_weaker c.defer.result (λ deferred same. subst (λ (s : State). IsOpening c.args.settings s) (sym same) c.in_ok-new.ensures.opening) c.defer.ensures.state
