-- Whether an address is a symmetric neighbour's.
use Rattle.mesh_nhdp.proofs.Common.{◌≡◌, ℕ, ◌⊎◌, inl, inr, refl, sym, ◌∙◌, subst, Contains, Decides, Bool, true, false, ◌&&◌, list_any, false≢true, place_from_lookup, lookup-from_Contains, Addr4, Neighbour, HasDistinctKeys, addr_eq, Neighbourhood, IsSymmetricAddress, Decides-some, Decides-addr, Decides-and, addr_equiv, contains_at}

module _ (near : Neighbourhood) (distinct : HasDistinctKeys addr_eq near.neighbours) (a : Addr4) where
  IsOf : Addr4 × (Neighbour × ℕ) → Type 0
  IsOf e = (e.1.0.symmetric ≡ true) × ((x : Addr4) × Contains e.1.0.addrs x × (a ≡ x))

  is_of : Addr4 × (Neighbour × ℕ) → Bool
  is_of e = e.1.0.symmetric && list_any (addr_eq a) e.1.0.addrs

  decides : Decides (list_any is_of near.neighbours) ((e : Addr4 × (Neighbour × ℕ)) × Contains near.neighbours e × IsOf e)
  unfolding is_of IsOf
  decides = Decides-some is_of IsOf (λ e. Decides-and e.1.0.symmetric (list_any (addr_eq a) e.1.0.addrs) ((λ h. h), (λ h. h)) (Decides-some (addr_eq a) (λ x. a ≡ x) (λ x. Decides-addr a x) e.1.0.addrs)) near.neighbours

  pub symmetric_or_not : IsSymmetricAddress near a ⊎ (IsSymmetricAddress near a → ⊥)
  unfolding is_of IsOf
  symmetric_or_not = by_test (list_any is_of near.neighbours) refl where
    by_test : (b : Bool) → list_any is_of near.neighbours ≡ b → IsSymmetricAddress near a ⊎ (IsSymmetricAddress near a → ⊥)
    by_test true is =
        let (e, within, of) = decides.0 is in
        inl (e.0, e.1.0, e.1.1, lookup-from_Contains addr_equiv e.0 e.1 near.neighbours distinct within, of.0, subst (λ (y : Addr4). Contains e.1.0.addrs y) (sym of.1.2) of.1.1)
    by_test false is = inr (λ s. (
        let (o, n, until, at, symmetric, has) = s in
        let (k, q, there, test) = place_from_lookup (addr_eq o) near.neighbours (n, until) at in
        false≢true (sym is ∙ decides.1 ((q, (n, until)), contains_at near.neighbours k (q, (n, until)) there, (symmetric, (a, has, refl))))))
