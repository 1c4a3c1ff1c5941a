use Rattle.mesh_routes.proofs.Common.{◌↔◌, IsTrue, List, subst, Attached4, HasNetworkIn}
use Rattle.mesh_routes.proofs.HopsLemmas.Tests.{neither}
use Rattle.mesh_routes.proofs.hops.own.is_outside.Goals as goal

pub returns-then-not-is_own_address : goal.returns-then-not-is_own_address
returns-then-not-is_own_address c =
    let h : IsTrue c.is_network.result ↔ HasNetworkIn c.args.settings.now.attached c.args.node =
    subst (λ (l : List Attached4). IsTrue c.is_network.result ↔ HasNetworkIn l c.args.node) c.as_slice.ensures c.is_network.ensures in
    neither c.is_own_address.result c.is_network.result c.if-not-is_own_address.true c.is_own_address.ensures h
