-- From each neighbour graph relays can be chosen: all willing neighbours are relays at first, and each one that isn't missed is left out.
use Rattle.mesh_bases.proofs.Common.{common_steps, ◌≡◌, ◌<◌, inl, inr, refl, sym, ap, subst, arith, Bool, not, filter, List, [], ◌∷◌, Contains, cases_lt, AllPairs-filter, Addr4, Near, NeighbourGraph, addr_eq, AreRelaysOf, IsWilling, IsRelay, IsOtherRelay, Covers, IsMissed, HasDistinctIds, IsAscending, contains_cases, contains_filter, contains_filter_cases, contains_head, contains_none, contains_tail, listed_one}
use Rattle.mesh_atoms.proofs.Deciding.{Decides-addr, Decides-not}
use Rattle.mesh_bases.proofs.Existing.Ascending.{list_ascending}
use Rattle.mesh_bases.proofs.Existing.Listings.{list_elements, list_of, list_where}
use Rattle.mesh_bases.proofs.Existing.Offers.{larger_as_cheap, offers_more, willing_or_not}
use Rattle.mesh_bases.proofs.Existing.Offers.{missed_among_fewer, missed_or_not, same_without}

-- The ids but one

abbrev is_other : Addr4 → Addr4 → Bool
is_other id a = not (addr_eq a id)

abbrev without : List Addr4 → Addr4 → List Addr4
without relays id = filter (is_other id) relays

others_stay : (relays : List Addr4) (id a : Addr4) → Contains relays a → (a ≡ id → ⊥) → Contains (without relays id) a
others_stay relays id a has apart = grind (arith, common_steps, contains_filter, Decides-not, Decides-addr)

only_others : (relays : List Addr4) (id a : Addr4) → Contains (without relays id) a → Contains relays a × (a ≡ id → ⊥)
only_others relays id a has =
    let (was, apart) = contains_filter_cases (is_other id) relays a has in
    (was, (Decides-not (addr_eq a id) (Decides-addr a id)).0 apart)

module _ (g : NeighbourGraph) (distinct : HasDistinctIds g) where
  -- the relays cover, and each that is one of the neighbours that were tried and has a willingness below 15 is missed
  record IsReduced (tried : List Near) (relays : List Addr4) : Type 0 where
    covers : Covers g relays
    ascending : IsAscending relays
    missed : (n : Near) → Contains tried n → Contains relays n.id → n.will < 15 → IsMissed g relays n.id

  -- all willing neighbours, before one is tried
  all_willing : (relays : List Addr4) × IsReduced [] relays
  all_willing =
      let ids = list_of (list_elements g.near) (λ n. list_where (willing_or_not n) (listed_one n.id)) in
      let (relays, (up, are)) = list_ascending ids in
      let has : (n : Near) → Contains g.near n → IsWilling n → Contains relays n.id =
      λ n near willing. (are n.id).1 (n, near, (willing, refl)) in (
        relays,
        record {
          covers = record {
            always = λ n near most. has n near (λ never. omega arith);
            willing = λ id among. let (n, near, (willing, is)) = (are id).0 among in (n, near, is, willing);
            as_cheap = λ f c far offer. larger_as_cheap g (IsRelay relays) IsWilling has f.addr c offer;
          };
          ascending = up;
          missed = λ n none. absurd (contains_none n none);
        },
      )

  module _ (tried : List Near) (relays : List Addr4) (reduced : IsReduced tried relays) (n : Near) where
    -- a neighbour that has to stay
    stays : (n.will < 15 → IsMissed g relays n.id) → IsReduced (n ∷ tried) relays
    stays is_missed = record {
      covers = reduced.covers;
      ascending = reduced.ascending;
      missed = λ m among relay low. elim (contains_cases n tried m among) [
        | inl same ↦ subst (λ (x : Near). x.will < 15 → IsMissed g relays x.id) same is_missed low
        | inr earlier ↦ reduced.missed m earlier relay low
      ];
    }

    -- a neighbour that is left out
    module _ (near : Contains g.near n) (low : n.will < 15) (fails : IsMissed g relays n.id → ⊥) where
      fewer : List Addr4
      fewer = without relays n.id

      within : (id : Addr4) → Contains fewer id → Contains relays id
      unfolding fewer
      within id has = (only_others relays n.id id has).0

      still_cover : Covers g fewer
      unfolding fewer
      still_cover = record {
        always = λ m near_m most. others_stay relays n.id m.id (reduced.covers.always m near_m most) (λ same.
            let wills : m.will ≡ n.will = ap (λ (x : Near). x.will) (distinct m n near_m near same) in
            omega arith);
        willing = λ id has. reduced.covers.willing id (within id has);
        as_cheap = λ f c far offer.
            let (e, cheaper, upto) = (same_without g relays n.id fails f far).0 c offer in
            let more = offers_more g (IsOtherRelay relays n.id) (IsRelay fewer)
            (λ m near_m (has, apart). others_stay relays n.id m.id has apart) in
            (e, more f.addr e cheaper, upto);
      }

      leaves : IsReduced (n ∷ tried) fewer
      unfolding fewer
      leaves = record {
        covers = still_cover;
        ascending = AllPairs-filter (λ (a b : Addr4). a.0 < b.0) (is_other n.id) relays reduced.ascending;
        missed = λ m among relay low_m. elim (contains_cases n tried m among) [
          | inl same ↦ absurd ((only_others relays n.id m.id relay).1 (ap (λ (x : Near). x.id) (sym same)))
          | inr earlier ↦
              let is_missed = reduced.missed m earlier (within m.id relay) low_m in
              missed_among_fewer g distinct relays fewer reduced.covers within m.id is_missed
        ];
      }

  reduce : (nears : List Near) → ((n : Near) → Contains nears n → Contains g.near n) → (relays : List Addr4) × IsReduced nears relays
  reduce [] within = all_willing
  reduce (n ∷ nears) within =
      let (relays, reduced) = reduce nears (λ m has. within m (contains_tail n nears m has)) in
      elim (cases_lt n.will 15) [
        | inr always ↦ (relays, stays nears relays reduced n (λ low. absurd (omega arith)))
        | inl low ↦ elim (missed_or_not g relays n.id) [
          | inl is_missed ↦ (relays, stays nears relays reduced n (λ _. is_missed))
          | inr fails ↦
              let near = within n (contains_head n nears) in
              (fewer nears relays reduced n near low fails, leaves nears relays reduced n near low fails)
        ]
      ]

  pub relays_of_graph : (relays : List Addr4) × AreRelaysOf g relays
  relays_of_graph =
      let (relays, reduced) = reduce g.near (λ n has. has) in (
        relays,
        record {
          covers = reduced.covers;
          needed = record { missed = λ n near relay willing low. reduced.missed n near relay low };
          ascending = reduced.ascending;
        },
      )
