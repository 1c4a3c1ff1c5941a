use Rattle.mesh_links.proofs.Common.{◌≡◌, sym, subst, Some, SetsOnly, link_eq, HasRoom, by_result}
use Rattle.mesh_links.proofs.Room.{room_set}
use Rattle.mesh_links.proofs.hearing.put_made.Goals as goal

pub returns-clause-room : goal.returns-clause-room
returns-clause-room g c =
    let old = g.T.Table.content c.args.table.now in
    let new = g.T.Table.content c.put.new.self in
    by_result (SetsOnly link_eq old new c.args.key (Some (c.renew-until.new.link, c.renew-until.result))) (new ≡ old) (HasRoom new) c.put.result c.put.ensures.ok c.put.ensures.err
    (λ sets. room_set old new c.args.key (c.renew-until.new.link, c.renew-until.result) c.requires.room sets c.renew-until.ensures.sym)
    (λ same. subst HasRoom (sym same) c.requires.room)
