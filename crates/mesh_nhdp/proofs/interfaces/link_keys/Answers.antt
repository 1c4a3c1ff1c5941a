use Rattle.mesh_nhdp.proofs.Common.{ap, sym, subst, ◌∙◌, ◌++◌, keys_of, LinkKey, Link, Base, HasDistinctKeys, link_eq}
use Rattle.mesh_nhdp.proofs.LinkKeys.{tells_keys}
use Rattle.mesh_nhdp.proofs.interfaces.link_keys.Goals as goal

pub returns : goal.returns
returns g c =
    tells_keys c.args.links.now (g.L.Table.content c.table.result.now) _ c.table.ensures.content
    (subst (λ (b : Base LinkKey Link). HasDistinctKeys link_eq b) (sym c.table.ensures.content) c.table.ensures.distinct) (c.in_ok-put_table_keys.ensures ∙ ap (λ ks. ks ++ keys_of (g.L.Table.content c.table.result.now)) c.new-found.ensures.items)
