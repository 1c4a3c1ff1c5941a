use Rattle.mesh_nhdp.proofs.Common.{refl, sym, on_ok_weaker}
use Rattle.mesh_nhdp.proofs.Spoken.{adds_found, adds_unfound}
use Rattle.mesh_nhdp.proofs.near_addresses.add_wanted_at.Goals as goal

pub returns-in-Some : goal.returns-in-Some
returns-in-Some g c =
    on_ok_weaker c.add_wanted.result
    (λ adds. adds_found (g.T.Table.content c.args.table.now) c.args.wanted c.args.originator c.in-Some.neighbour.now c.in-Some.field-0-1 c.args.addrs.now.items c.add_wanted.new.addrs.items (sym c.in-Some.ensures) adds) c.add_wanted.ensures

pub returns-in-None : goal.returns-in-None
returns-in-None g c = adds_unfound (g.T.Table.content c.args.table.now) c.args.wanted c.args.originator c.args.addrs.now.items c.args.addrs.now.items refl (sym c.in-None.ensures)
