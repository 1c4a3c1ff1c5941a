use Rattle.mesh_routes.proofs.Common.{◌↔◌, IsTrue, List, subst, Interface, HasAddressIn}
use Rattle.mesh_routes.proofs.hops.own.is_own_address.Goals as goal

pub returns-then-node-eq32 : goal.returns-then-node-eq32
returns-then-node-eq32 c =
    let h : IsTrue c.is_address.result ↔ HasAddressIn c.args.settings.now.interfaces c.args.node.addr =
    subst (λ (l : List Interface). IsTrue c.is_address.result ↔ HasAddressIn l c.args.node.addr) c.as_slice.ensures c.is_address.ensures in
    (λ e. (c.if-node-eq32.true, h.0 e), λ w. h.1 w.1)
