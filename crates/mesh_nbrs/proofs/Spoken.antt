-- The neighbours that a HELLO speaks of.
use Rattle.mesh_nbrs.proofs.Common.{arith, common_steps, ◌≡◌, ◌≢◌, ℕ, inl, inr, refl, sym, ap, ◌∙◌, Bool, true, false, cond, List, Contains, Option, Some, None, is_some, ◌↔◌, ◌&&◌, not, list_any, list_any_at, Contains-list_any, Addr4, Neighbour, find, addr_eq, IsKept, Meets, addr_equiv, same_addr, IsSpokenOf, owner_of, is_owner, Owned, some_of, and_parts, cond_both}
use Rattle.mesh_atoms.specs.AfterHello.{Matches}
use Rattle.mesh_nbrs.proofs.Listed.{listed_of, contains_of, listed_where, found_of}
use Rattle.mesh_nbrs.proofs.Owning.{Owners, Nbrs, from_at, noted_of}

is_owner_so : (p : Option Addr4) (o : Addr4) → is_owner p o ≡ true → p ≡ Some o
is_owner_so p o h = grind (arith, common_steps, same_addr)

module _ (owners : Owners) (base : Nbrs) (originator : Addr4) (listed keys : List Addr4) (owned : Owned owners base)
    (are : (o : Addr4) → list_any (addr_eq o) keys ≡ cond (is_some (find addr_eq base originator) && addr_eq originator o) true (list_any (λ x. is_owner (owner_of owners x) o) listed)) where
  by_note : (o : Addr4) → list_any (λ x. is_owner (owner_of owners x) o) listed ≡ true → IsSpokenOf base originator listed o
  by_note o h =
      let (x, within, is) = found_of (λ x. is_owner (owner_of owners x) o) listed h in
      let (e, found, has) = from_at base o x ((owned x o).0 (is_owner_so (owner_of owners x) o is)) in
      (e, found, inr (x, has, within))

  by_test : (o : Addr4) (b : Bool) → (is_some (find addr_eq base originator) && addr_eq originator o) ≡ b → cond b true (list_any (λ x. is_owner (owner_of owners x) o) listed) ≡ true → IsSpokenOf base originator listed o
  by_test o true is h =
      let (stands, same) = and_parts (is_some (find addr_eq base originator)) (addr_eq originator o) is in
      let (e, found) = some_of (find addr_eq base originator) stands in
      let one : originator ≡ o = same_addr originator o same in
      (e, ap (find addr_eq base) (sym one) ∙ found, inl (sym one))
  by_test o false is h = by_note o h

  by_match : (o : Addr4) (e : Neighbour × ℕ) → find addr_eq base o ≡ Some e → Matches originator listed o e.0 → cond (is_some (find addr_eq base originator) && addr_eq originator o) true (list_any (λ x. is_owner (owner_of owners x) o) listed) ≡ true
  by_match o e found (inl mine) = rw (ap (find addr_eq base) (sym mine) ∙ found, ap (addr_eq originator) mine ∙ addr_equiv.refl originator) refl
  by_match o e found (inr met) =
      let noted : owner_of owners met.0 ≡ Some o = noted_of owners base owned met.0 o e found met.1 in
      cond_both (is_some (find addr_eq base originator) && addr_eq originator o) true (list_any (λ x. is_owner (owner_of owners x) o) listed) (λ x. x ≡ true) (λ e. refl)
      (λ e. list_any_at (λ x. is_owner (owner_of owners x) o) listed met.2.0 met.0 met.2.1 (rw (met.2.2, noted) (addr_equiv.refl o)))

  pub spoken : (o : Addr4) → Contains keys o ↔ IsSpokenOf base originator listed o
  spoken o = (
    (λ has. by_test o (is_some (find addr_eq base originator) && addr_eq originator o) refl (sym (are o) ∙ list_any_at (addr_eq o) keys has.0 o has.1 (rw (has.2) (addr_equiv.refl o)))),
    (λ told. Contains-list_any addr_eq same_addr keys o (are o ∙ by_match o told.0 told.1 told.2)),
  )

-- those of other originators go
module _ (old mid : Nbrs) (originator : Addr4) (listed found : List Addr4) (told : (o : Addr4) → Contains found o ↔ IsSpokenOf old originator listed o)
    (gone : (o : Addr4) → find addr_eq mid o ≡ cond (list_any (λ x. addr_eq x o && not (addr_eq x originator)) found) None (find addr_eq old o)) where
  gone_other : (o : Addr4) → addr_eq o originator ≡ false → find addr_eq mid o ≡ cond (list_any (λ x. addr_eq x o) found) None (find addr_eq old o)
  gone_other o other = grind (arith, common_steps, listed_where, same_addr)

  other_key : (o : Addr4) → o ≢ originator → addr_eq o originator ≡ false
  other_key o other = grind (arith, common_steps, same_addr)

  kept_by : (o : Addr4) (stood : Option (Neighbour × ℕ)) → find addr_eq old o ≡ stood → (b : Bool) → list_any (λ x. addr_eq x o) found ≡ b → find addr_eq mid o ≡ cond b None stood → IsKept (λ e. Matches originator listed o e.0 → ⊥) stood (find addr_eq mid o)
  kept_by o None was true is now = now
  kept_by o None was false is now = now
  kept_by o (Some e) was true is now =
      let (f, at, matches) = (told o).0 (contains_of same_addr found o is) in
      let both : Some f ≡ Some e = sym at ∙ was in
      let one : f ≡ e = cc in
      inr ((λ not_so. not_so (rw (← one) matches)), now)
  kept_by o (Some e) was false is now =
      inl ((λ matches. let yes : list_any (λ x. addr_eq x o) found ≡ true = listed_of addr_equiv found o ((told o).1 (e, was, matches)) in let clash : true ≡ false = sym yes ∙ is in absurd cc), now)

  pub others_kept : (o : Addr4) → o ≢ originator → IsKept (λ e. Matches originator listed o e.0 → ⊥) (find addr_eq old o) (find addr_eq mid o)
  others_kept o other = kept_by o (find addr_eq old o) refl (list_any (λ x. addr_eq x o) found) refl (gone_other o (other_key o other))

  -- so that none of them has a listed address
  pub only_this : (o : Addr4) (e : Neighbour × ℕ) → find addr_eq mid o ≡ Some e → Meets e.0.addrs listed → o ≡ originator
  only_this o e at met = by_key (addr_eq o originator) refl where
    by_kept : (stood : Option (Neighbour × ℕ)) → IsKept (λ x. Matches originator listed o x.0 → ⊥) stood (find addr_eq mid o) → o ≡ originator
    by_kept None kept = let both : None ≡ Some e = sym kept ∙ at in absurd cc
    by_kept (Some f) (inl stays) = let both : Some f ≡ Some e = sym (stays.1) ∙ at in let one : f ≡ e = cc in absurd (stays.0 (inr (rw one met)))
    by_kept (Some f) (inr ends) = let both : None ≡ Some e = sym (ends.1) ∙ at in absurd cc

    by_key : (b : Bool) → addr_eq o originator ≡ b → o ≡ originator
    by_key true is = same_addr o originator is
    by_key false is = by_kept (find addr_eq old o) (others_kept o (λ mine. let yes : addr_eq o originator ≡ true = ap (λ (q : Addr4). addr_eq q originator) mine ∙ addr_equiv.refl originator in let clash : true ≡ false = sym yes ∙ is in absurd cc))
