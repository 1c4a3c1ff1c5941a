-- What sets of neighbours offer, and whether a relay is missed.
use Rattle.mesh_bases.proofs.Common.{common_steps, ℕ, ◌+◌, inl, inr, refl, subst, arith, List, Contains, cases_eq, Addr4, Near, Far, NeighbourGraph, Offers, IsWilling, IsOtherRelay, IsAsCheap, HasSameDistance, Covers, IsMissed, HasDistinctIds, same_address, IsListed, listed_by, listed_one, listed_either}
use Rattle.mesh_bases.proofs.Existing.Listings.{HoldsOrNot, both_or_not, opposite_or_not, upto_or_not, some_or_none, each_or_not}
use Rattle.mesh_bases.proofs.Existing.Listings.{list_elements, list_where, list_of}

-- Whether a neighbour is in a set

pub has_or_not : (ids : List Addr4) (id : Addr4) → HoldsOrNot (Contains ids id)
has_or_not ids id = elim (some_or_none (list_elements ids) (λ a. same_address a id)) [
  | inl (a, has, is) ↦ inl (subst (λ (b : Addr4). Contains ids b) is has)
  | inr none ↦ inr (λ has. none (id, has, refl))
]

pub willing_or_not : (n : Near) → HoldsOrNot (IsWilling n)
willing_or_not n = elim (cases_eq n.will 0) [ inl never ↦ inr (λ willing. willing never) | inr willing ↦ inl willing ]

other_or_not : (relays : List Addr4) (id : Addr4) (n : Near) → HoldsOrNot (IsOtherRelay relays id n)
other_or_not relays id n = both_or_not (has_or_not relays n.id) (opposite_or_not (same_address n.id id))

module _ (g : NeighbourGraph) where
  -- Offers

  -- a larger set offers what a set offers
  pub offers_more : (A B : Near → Type 0) → ((n : Near) → Contains g.near n → A n → B n) →
      (y : Addr4) (c : ℕ) → Offers g A y c → Offers g B y c
  offers_more A B more y c h5 = grind (arith, common_steps)

  pub larger_as_cheap : (A B : Near → Type 0) → ((n : Near) → Contains g.near n → B n → A n) → (y : Addr4) → IsAsCheap g A B y
  larger_as_cheap A B more y c offer = (c, offers_more B A more y c offer, omega arith)

  -- the costs at which a set offers an address
  list_offers : (A : Near → Type 0) → ((n : Near) → HoldsOrNot (A n)) → (y : Addr4) → IsListed (Offers g A y)
  list_offers A decide y =
      let direct = listed_by
      (λ (c : ℕ). (λ (d, has, (at, cost)). (d, has, at, cost), λ (d, has, at, cost). (d, has, (at, cost))))
      (list_of (list_elements g.direct) (λ d. list_where (same_address d.addr y) (listed_one d.cost))) in
      let by_neighbour = listed_by
      (λ (c : ℕ). (
        λ (n, near, (a, (f, far, (via, (at, cost))))). (n, near, a, f, far, via, at, cost),
        λ (n, near, a, f, far, via, at, cost). (n, near, (a, (f, far, (via, (at, cost))))),
      ))
      (list_of (list_elements g.near) (λ n. list_where (decide n)
      (list_of (list_elements g.far) (λ f. list_where (same_address f.via n.id)
      (list_where (same_address f.addr y) (listed_one (n.cost + f.cost))))))) in
      listed_either direct by_neighbour

  as_cheap_or_not : (A B : Near → Type 0) → ((n : Near) → HoldsOrNot (A n)) → ((n : Near) → HoldsOrNot (B n)) →
      (y : Addr4) → HoldsOrNot (IsAsCheap g A B y)
  as_cheap_or_not A B decide_a decide_b y =
      each_or_not (list_offers B decide_b y) (λ c. some_or_none (list_offers A decide_a y) (λ e. upto_or_not e c))

  -- Relays that are missed

  same_or_not : (relays : List Addr4) (id y : Addr4) → HoldsOrNot (HasSameDistance g (IsOtherRelay relays id) IsWilling y)
  same_or_not relays id y =
      let decide = other_or_not relays id in
      both_or_not (as_cheap_or_not (IsOtherRelay relays id) IsWilling decide willing_or_not y)
      (as_cheap_or_not IsWilling (IsOtherRelay relays id) willing_or_not decide y)

  pub missed_or_not : (relays : List Addr4) (id : Addr4) → HoldsOrNot (IsMissed g relays id)
  missed_or_not relays id = some_or_none (list_elements g.far) (λ f. opposite_or_not (same_or_not relays id f.addr))

  -- without a relay that isn't missed each distance is the same
  pub same_without : (relays : List Addr4) (id : Addr4) → (IsMissed g relays id → ⊥) → (f : Far) → Contains g.far f →
      HasSameDistance g (IsOtherRelay relays id) IsWilling f.addr
  same_without relays id fails f far = elim (same_or_not relays id f.addr) [
    | inl same ↦ same
    | inr other ↦ absurd (fails (f, far, other))
  ]

  relays_are_willing : HasDistinctIds g → (relays : List Addr4) → Covers g relays →
      (n : Near) → Contains g.near n → Contains relays n.id → IsWilling n
  relays_are_willing distinct relays covers n near has =
      let (m, near_m, is, willing) = covers.willing n.id has in
      subst IsWilling (distinct m n near_m near is) willing

  -- a relay that is missed among relays that cover is missed among fewer of them
  pub missed_among_fewer : HasDistinctIds g → (relays fewer : List Addr4) → Covers g relays →
      ((id : Addr4) → Contains fewer id → Contains relays id) → (id : Addr4) → IsMissed g relays id → IsMissed g fewer id
  missed_among_fewer distinct relays fewer covers within id (f, far, other) = (
    f,
    far,
    λ same.
        let more = offers_more (IsOtherRelay fewer id) (IsOtherRelay relays id) (λ n near (has, apart). (within n.id has, apart)) f.addr in
        let willing = larger_as_cheap IsWilling (IsOtherRelay relays id)
        (λ n near (has, apart). relays_are_willing distinct relays covers n near has) f.addr in
        other (λ c offer. let (e, cheaper, upto) = same.0 c offer in (e, more e cheaper, upto), willing),
  )
