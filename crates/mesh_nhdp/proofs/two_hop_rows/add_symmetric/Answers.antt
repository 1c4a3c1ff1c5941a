use Rattle.mesh_nhdp.proofs.Common.{refl, sym, TellsSymmetric, adds_one}
use Rattle.mesh_nhdp.proofs.two_hop_rows.add_symmetric.Goals as goal

pub returns-in_ok-push : goal.returns-in_ok-push
returns-in_ok-push c =
    adds_one c.args.addrs.now.items _ (TellsSymmetric c.args.own.now c.args.listed.now c.args.row.now) c.args.row.now.addr.addr c.in_ok-push.ensures.items
    (c.if-is_looked_at.ensures.0 refl, sym c.if-is_symmetric_row.ensures, refl) (λ a p. p.2)
