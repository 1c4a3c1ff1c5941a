use Rattle.mesh_nbrs.proofs.Common.{◌≡◌, Bool, is_some, rules, ap, ◌∙◌, filter, lookup-filter-values, filter-RetainsPairs, Addr4, find, addr_eq, addr_equiv, owner_of}
use Rattle.mesh_nbrs.proofs.Owning.{leaves_tested}
use Rattle.mesh_nbrs.proofs.owners.purge.Goals as goal

pub returns : goal.returns
returns g c a o =
    let test : Addr4 → Bool = λ p. is_some (find addr_eq (g.T.Table.content c.args.table.now) p) in
    let kept : c.retain.new.self.entries ≡ filter (λ p. test p.1) c.args.owners.now.entries =
    filter-RetainsPairs _ _ _ (λ k v b w f call. search rules) _ _ c.retain.ensures.filtered in
    leaves_tested test (owner_of c.args.owners.now.entries a) (owner_of c.retain.new.self.entries a) o
    (ap (λ l. owner_of l a) kept ∙ lookup-filter-values addr_equiv test a c.args.owners.now.entries c.map_keys_are_distinct.ensures)
