-- The addresses that a router holds, with those that a HELLO tells of.
use Rattle.mesh_nhdp.proofs.Common.{◌≡◌, ℕ, ◌+◌, ◌≤◌, ◌⊎◌, ◌↔◌, inl, inr, sym, ◌∙◌, ap, subst, arith, List, [], ◌∷◌, ◌++◌, length, length-append, Contains, Some, option_map, keys_of, slice_get-map, Contains-append_cases, Contains-append_left, Contains-append_right, Contains-push, Contains-push_cases, place_from_lookup, length-keys_of, list_any-from_Contains, Addr4, Neighbour, Base, find, addr_eq, Neighbourhood, IsHeld, AreMoreThan, addr_equiv, same_addr, Each, IsWantedAddress, distinct_fits, contains_at}
use Rattle.mesh_nhdp.proofs.Limits.{found_if_key}

abbrev IsKnown : Neighbourhood → List Addr4 → Addr4 → Addr4 → Type 0
IsKnown near listed originator a = IsHeld near a ⊎ (Contains listed a ⊎ (a ≡ originator))

-- a key of a base is found, and what is found is a key
keys_found : {V : Type 0} (base : Base Addr4 V) (a : Addr4) → Contains (keys_of base) a ↔ ((e : V × ℕ) × (find addr_eq base a ≡ Some e))
keys_found {V} base a = (
  λ c. found_if_key (addr_eq a) base (list_any-from_Contains addr_equiv a (keys_of base) c),
  λ h. let (k, key, at, test) = place_from_lookup (addr_eq a) base h.0 h.1 in
      contains_at (keys_of base) k a (slice_get-map (λ (x : Addr4 × (V × ℕ)). x.0) base k ∙ (ap (option_map (λ (x : Addr4 × (V × ℕ)). x.0)) at ∙ ap (λ (x : Addr4). Some x) (sym (same_addr a key test)))),
)

-- addresses of neighbours, with the originators and the lost addresses
abbrev gathered : Neighbourhood → List Addr4 → List Addr4
gathered near wanted = (wanted ++ keys_of near.neighbours) ++ keys_of near.losts

pub held_addresses : (near : Neighbourhood) (listed : List Addr4) (originator : Addr4) (wanted : List Addr4) → ((a : Addr4) → Contains wanted a ↔ IsWantedAddress near.neighbours Each a) →
    (a : Addr4) → Contains ((gathered near wanted ++ listed) ++ originator ∷ []) a ↔ IsKnown near listed originator a
held_addresses near listed originator wanted wanted_is a = (to, from)
  where
    to : Contains ((gathered near wanted ++ listed) ++ originator ∷ []) a → IsKnown near listed originator a
    to c = elim (Contains-push_cases (gathered near wanted ++ listed) originator a c) [
      | inr same ↦ inr (inr (sym same))
      | inl told ↦ elim (Contains-append_cases (gathered near wanted) listed a told) [
        | inr has ↦ inr (inl has)
        | inl held ↦ elim (Contains-append_cases (wanted ++ keys_of near.neighbours) (keys_of near.losts) a held) [
          | inr lost ↦ inl (inr (inr ((keys_found near.losts a).0 lost)))
          | inl first ↦ elim (Contains-append_cases wanted (keys_of near.neighbours) a first) [
            | inl w ↦ let (o, n, until, is, any, has) = (wanted_is a).0 w in inl (inr (inl (o, n, until, is, has)))
            | inr key ↦ inl (inl ((keys_found near.neighbours a).0 key))
          ]
        ]
      ]
    ]

    in_all : Contains (gathered near wanted) a → Contains ((gathered near wanted ++ listed) ++ originator ∷ []) a
    in_all c = Contains-append_left (gathered near wanted ++ listed) (originator ∷ []) a (Contains-append_left (gathered near wanted) listed a c)

    of_neighbours : Contains (wanted ++ keys_of near.neighbours) a → Contains ((gathered near wanted ++ listed) ++ originator ∷ []) a
    of_neighbours c = in_all (Contains-append_left (wanted ++ keys_of near.neighbours) (keys_of near.losts) a c)

    from : IsKnown near listed originator a → Contains ((gathered near wanted ++ listed) ++ originator ∷ []) a
    from (inl (inl held)) = of_neighbours (Contains-append_right wanted (keys_of near.neighbours) a ((keys_found near.neighbours a).1 held))
    from (inl (inr (inl held))) = let (o, n, until, is, has) = held in of_neighbours (Contains-append_left wanted (keys_of near.neighbours) a ((wanted_is a).1 (o, n, until, is, tt, has)))
    from (inl (inr (inr held))) = in_all (Contains-append_right (wanted ++ keys_of near.neighbours) (keys_of near.losts) a ((keys_found near.losts a).1 held))
    from (inr (inl has)) = Contains-append_left (gathered near wanted ++ listed) (originator ∷ []) a (Contains-append_right (gathered near wanted) listed a has)
    from (inr (inr same)) = subst (λ (b : Addr4). Contains ((gathered near wanted ++ listed) ++ originator ∷ []) b) (sym same) (Contains-push (gathered near wanted ++ listed) originator)

-- where all that is held and told is few, each as often as it stands somewhere, the different ones are no more than so many
pub few_held : (near : Neighbourhood) (listed : List Addr4) (originator : Addr4) (theirs : List Addr4) →
    ((a : Addr4) → Contains theirs a ↔ ((o : Addr4) × (e : Neighbour × ℕ) × (find addr_eq near.neighbours o ≡ Some e) × Contains e.0.addrs a)) →
    length theirs + (length near.neighbours + length near.losts + length listed + 1) ≤ 1024 → AreMoreThan 1024 (IsKnown near listed originator) → ⊥
few_held near listed originator theirs are few (some, different, all, many) =
    let one = theirs ++ keys_of near.neighbours in
    let two = one ++ keys_of near.losts in
    let three = two ++ listed in
    let whole = three ++ originator ∷ [] in
    let fits = distinct_fits addr_equiv same_addr some whole different (λ a c. (held_addresses near listed originator theirs wanted a).1 (all a c)) in
    let last : length whole ≡ length three + 1 = length-append three (originator ∷ []) in
    absurd (omega (arith, fits, few, many, last, length-append two listed, length-append one (keys_of near.losts), length-append theirs (keys_of near.neighbours), length-keys_of near.neighbours, length-keys_of near.losts))
  where
    wanted : (a : Addr4) → Contains theirs a ↔ IsWantedAddress near.neighbours Each a
    wanted a = (
      (λ c. let (o, e, is, has) = (are a).0 c in (o, e.0, e.1, is, tt, has)),
      (λ h. let (o, n, until, is, any, has) = h in (are a).1 (o, (n, until), is, has)),
    )
