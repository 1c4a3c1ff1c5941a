use Rattle.mesh_routes.proofs.Common.{Contains, sym, ◌∙◌, false≢true, AllWithin-more, at_read, Interface, yes, no, item_in, of_each}
use Rattle.mesh_routes.proofs.hops.own.is_address.Goals as goal

pub returns-then-has_address : goal.returns-then-has_address
returns-then-has_address c = yes (c.interface-item.result, item_in c.args.interfaces.now c.loop-interface.interface-index c.interface-item.result c.interface-item.is c.loop-interface-test.true, c.has_address.ensures.0 c.if-has_address.true)

pub loop-interface-preserved : goal.loop-interface-preserved
loop-interface-preserved c =
    let P : Interface → Type 0 = λ i. Contains i.addrs c.args.addr → ⊥ in
    AllWithin-more P c.args.interfaces.now 0 c.loop-interface.interface-index c.loop-interface.invariant
    (at_read c.args.interfaces.now P c.loop-interface.interface-index c.interface-item.result c.loop-interface-test.true c.interface-item.is
    (λ h. false≢true (sym c.if-has_address.false ∙ c.has_address.ensures.1 h)))

pub returns : goal.returns
returns c = no (λ w. of_each (λ (i : Interface). Contains i.addrs c.args.addr → ⊥) c.args.interfaces.now c.loop-interface.interface-index c.loop-interface-test.false c.loop-interface.invariant w.0 w.1 w.2)
