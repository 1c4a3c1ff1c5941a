use Rattle.mesh_links.proofs.Common.{◌≡◌, List, [], ◌∷◌, Some, is_some, true, rules, subst, sym, common_steps, arith, Base, Addr4, Link, LinkKey, find, link_eq, owner_of, purged}
use Rattle.indexmap.proofs.CallerLemmas.{filter-RetainsPairs}
use Rattle.mesh_links.proofs.owners.purge.Goals as goal

-- what is noted of a link that is there stays noted
noted_stays : (links : Base LinkKey Link) (a : Addr4) (key : LinkKey) → is_some (find link_eq links key) ≡ true → (owners : List (Addr4 × LinkKey)) → owner_of owners a ≡ Some key → owner_of (purged links owners) a ≡ Some key
noted_stays links a key there [] noted = noted
noted_stays links a key there (e ∷ rest) noted = let behind = noted_stays links a key there rest in grind (arith, common_steps, behind)

pub returns-clause-purged : goal.returns-clause-purged
returns-clause-purged g c = filter-RetainsPairs _ _ _ (λ k v b w f call. search rules) _ _ c.retain.ensures.filtered

pub returns-clause-kept : goal.returns-clause-kept
returns-clause-kept g c a key there noted =
    let links : Base LinkKey Link = g.T.Table.content c.args.table.now in
    subst (λ (l : List (Addr4 × LinkKey)). owner_of l a ≡ Some key) (sym (filter-RetainsPairs _ _ _ (λ k v b w f call. search rules) _ _ c.retain.ensures.filtered)) (noted_stays links a key there c.args.owners.now.entries noted)
