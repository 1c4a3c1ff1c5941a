use Rattle.mesh_replay.proofs.Common.{refl, sym, if_ok_weaker, router_state}
use Rattle.mesh_replay.proofs.checking.checked.CheckedRouterRouterOfTrace.hello.Goals as goal

pub returns : goal.returns
returns g c =
    if_ok_weaker c.hello_now.result (λ hello is. is (router_state c.args.self.now.holding c.args.self.now.derived) (sym c.nhdp.ensures.settings) (sym c.nhdp.ensures.near) refl) c.hello_now.ensures.ok
