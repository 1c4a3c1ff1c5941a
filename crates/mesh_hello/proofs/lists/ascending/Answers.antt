use Rattle.std.proofs.lemmas.List.Filters.{dedup_is}
use Rattle.mesh_hello.proofs.Common.{Contains-dedup, Contains-from_dedup, ◌∙◌, subst, sym, List, Contains, Addr4, addr_eq, IsAscending, addr_equiv, same_addr}
use Rattle.std.proofs.lemmas.List.Sorted.{Contains-permutation, IsPermutation-sym}
use Rattle.mesh_hello.proofs.Sorted.{ascending_dedup}
use Rattle.mesh_hello.proofs.lists.ascending.Goals as goal

pub returns-clause-order : goal.returns-clause-order
returns-clause-order c =
    let is = c.from_vec.ensures ∙ dedup_is addr_eq _ _ c.dedup.ensures.filtered in
    subst (λ (xs : List Addr4). IsAscending xs) (sym is) (ascending_dedup _ c.sort_unstable.ensures.sorted)

pub returns-clause-same : goal.returns-clause-same
returns-clause-same c a =
    let is = c.from_vec.ensures ∙ dedup_is addr_eq _ _ c.dedup.ensures.filtered in
    let moved = c.sort_unstable.ensures.permutation in (
      λ h. Contains-permutation _ _ a (IsPermutation-sym _ _ moved) (Contains-from_dedup addr_eq _ a (subst (λ (xs : List Addr4). Contains xs a) is h)),
      λ h. subst (λ (xs : List Addr4). Contains xs a) (sym is) (Contains-dedup addr_equiv same_addr _ a (Contains-permutation _ _ a moved h)),
    )
