-- What a link is, by tests and by cases; tuples by look-up and by membership.
use Rattle.mesh_atoms.proofs.Common.{common_steps, ◌≡◌, ℕ, inl, inr, ◌≢◌, sym, ◌∙◌, ap, subst, arith, List, [], slice_get, Some, ◌↔◌, Bool, true, false, cond, nat_lt, not, ◌&&◌, IsEquivalence, eqb-true, and_parts, nat_eq_equiv, on_equiv, and_equiv, Contains-from_lookup, lookup-from_Contains, get_or_past, slice_get_cases, get_or_from_slice_get, Addr4, NetAddr, Base, Has, find, base_of, HasDistinctKeys, addr_eq, net_eq, link_eq, two_hop_eq, router_eq, address_eq, network_eq, link_state}
use Rattle.mesh_atoms.specs.declared.hello.LinkStatus.{LinkStatus}
use Rattle.mesh_atoms.specs.declared.hello.LinkStatus.TheVariants.{Lost as Down, Symmetric, Heard}
use Rattle.mesh_atoms.specs.declared.tuples.LinkKey.{LinkKey}
use Rattle.mesh_atoms.specs.declared.tuples.TwoHopKey.{TwoHopKey}
use Rattle.mesh_atoms.specs.declared.tuples.RouterKey.{RouterKey}
use Rattle.mesh_atoms.specs.declared.tuples.AddressKey.{AddressKey}
use Rattle.mesh_atoms.specs.declared.tuples.NetworkKey.{NetworkKey}
use Rattle.mesh_atoms.specs.Agreement.{TestsSymmetric, TestsHeard, LooksUpLinks, LooksUpTwoHops, LooksUpNeighbours, LooksUpLosts, LooksUpAdvertisers, LooksUpRouters, LooksUpAddresses, LooksUpNetworks, ShowsStatus}
use Rattle.mesh_atoms.proofs.Nets.{same_net as same_parts}
use Rattle.mesh_atoms.specs.declared.tuples.LinkState.{LinkState}
use Rattle.mesh_atoms.specs.declared.tuples.LinkState.TheVariants.{Pending as Is_pending, Lost as Is_lost, Symmetric as Is_symmetric, Heard as Is_heard}

-- The status of a link

abbrev status : Bool → Bool → Bool → Bool → LinkState
status pending lost late heard = cond pending Is_pending (cond lost Is_lost (cond late Is_symmetric (cond heard Is_heard Is_lost)))

symmetric_by : (pending lost late heard : Bool) → (cond pending false (cond lost false late) ≡ true) ↔ (status pending lost late heard ≡ Is_symmetric)
symmetric_by pending lost late heard = grind (arith, common_steps)

pub tests_symmetric : TestsSymmetric
tests_symmetric link now = symmetric_by link.pending link.lost (nat_lt now link.sym) (nat_lt now link.heard)

heard_by : (pending lost late heard : Bool) → ((not pending && (not lost && (not late && heard))) ≡ true) ↔ (status pending lost late heard ≡ Is_heard)
heard_by pending lost late heard = grind (arith, common_steps)

pub tests_heard : TestsHeard
tests_heard link now = heard_by link.pending link.lost (nat_lt now link.sym) (nat_lt now link.heard)

abbrev shown : Bool → Bool → Bool → Bool → LinkStatus
shown pending lost late heard =
    cond (cond pending false (cond lost false late)) Symmetric (cond (not pending && (not lost && (not late && heard))) Heard Down)

shows_by : (pending lost late heard : Bool) → status pending lost late heard ≢ Is_pending → link_state (shown pending lost late heard) ≡ status pending lost late heard
shows_by pending lost late heard h = grind (arith, common_steps)

pub shows_status : ShowsStatus
shows_status link now = shows_by link.pending link.lost (nat_lt now link.sym) (nat_lt now link.heard)

-- When keys are the same

pub addr_equiv : IsEquivalence addr_eq
addr_equiv = on_equiv (λ (a : Addr4). a.0) nat_eq_equiv

pub link_equiv : IsEquivalence link_eq
link_equiv = on_equiv (λ (k : LinkKey). k.addr.0) nat_eq_equiv

pub two_hop_equiv : IsEquivalence two_hop_eq
two_hop_equiv = and_equiv (on_equiv (λ (k : TwoHopKey). k.link.addr.0) nat_eq_equiv) (on_equiv (λ (k : TwoHopKey). k.addr.0) nat_eq_equiv)

pub same_addr : (a b : Addr4) → addr_eq a b ≡ true → a ≡ b
same_addr a b h = ap (λ (n : ℕ). let r : Addr4 = record { 0 = n } in r) (eqb-true a.0 b.0 h)

pub same_link : (k l : LinkKey) → link_eq k l ≡ true → k ≡ l
same_link k l h = ap (λ (a : Addr4). let r : LinkKey = record { addr = a } in r) (same_addr k.addr l.addr h)

pub same_two_hop : (k l : TwoHopKey) → two_hop_eq k l ≡ true → k ≡ l
same_two_hop k l h = grind (arith, common_steps, same_addr)

pub same_net : (a b : NetAddr) → net_eq a b ≡ true → a ≡ b
same_net a b h = grind (arith, common_steps, same_parts, same_addr)

pub router_equiv : IsEquivalence router_eq
router_equiv = and_equiv (on_equiv (λ (k : RouterKey). k.from.0) nat_eq_equiv) (on_equiv (λ (k : RouterKey). k.to.0) nat_eq_equiv)

pub same_router : (k l : RouterKey) → router_eq k l ≡ true → k ≡ l
same_router k l h = grind (arith, common_steps, same_addr)

pub address_equiv : IsEquivalence address_eq
address_equiv = and_equiv (on_equiv (λ (k : AddressKey). k.from.0) nat_eq_equiv) (on_equiv (λ (k : AddressKey). k.addr.0) nat_eq_equiv)

pub same_address : (k l : AddressKey) → address_eq k l ≡ true → k ≡ l
same_address k l h = grind (arith, common_steps, same_addr)

pub net_equiv : IsEquivalence net_eq
net_equiv = and_equiv (on_equiv (λ (a : NetAddr). a.addr.0) nat_eq_equiv) (on_equiv (λ (a : NetAddr). a.prefix) nat_eq_equiv)

pub network_equiv : IsEquivalence network_eq
network_equiv = and_equiv (on_equiv (λ (k : NetworkKey). k.from.0) nat_eq_equiv) (on_equiv (λ (k : NetworkKey). k.net) net_equiv)

pub same_network : (k l : NetworkKey) → network_eq k l ≡ true → k ≡ l
same_network k l h =
    let (e, f) = and_parts (addr_eq k.from l.from) (net_eq k.net l.net) h in
    ap (λ (a : Addr4). let r : NetworkKey = record { from = a; net = k.net } in r) (same_addr k.from l.from e)
    ∙ ap (λ (a : NetAddr). let r : NetworkKey = record { from = l.from; net = a } in r) (same_net k.net l.net f)

-- Look-up and membership

-- in one base
pub has_found : {K V : Type 0} {eq : K → K → Bool} → IsEquivalence eq → ((k l : K) → eq k l ≡ true → k ≡ l) → (base : Base K V) (key : K) (value : V) →
    HasDistinctKeys eq base → Has base key value ↔ ((until : ℕ) × (find eq base key ≡ Some (value, until)))
has_found equiv same base key value distinct = (
  (λ has. (has.0, lookup-from_Contains equiv key (value, has.0) base distinct has.1)),
  (λ found. (found.0, Contains-from_lookup same key (value, found.0) base found.1)),
)

-- in the base of an interface
pub has_found_on : {K V : Type 0} {eq : K → K → Bool} → IsEquivalence eq → ((k l : K) → eq k l ≡ true → k ≡ l) → (bases : List (Base K V)) (i : ℕ) (key : K) (value : V) →
    HasDistinctKeys eq (base_of bases i) →
    ((base : Base K V) × (slice_get bases i ≡ Some base) × Has base key value) ↔ ((until : ℕ) × (find eq (base_of bases i) key ≡ Some (value, until)))
has_found_on {K} {V} {eq} equiv same bases i key value distinct = (
  (λ has.
      (let (base, at, stands) = has in
      let is : base_of bases i ≡ base = get_or_from_slice_get bases i base [] at in
      let P : Base K V → Type 0 = λ b. Has b key value in
      (has_found equiv same (base_of bases i) key value distinct).0 (subst P (sym is) stands))),
  (λ found. elim ((slice_get_cases bases i).1) [
    | inl there ↦
        let (base, _, at, _) = there in
        let is : base_of bases i ≡ base = get_or_from_slice_get bases i base [] at in
        let P : Base K V → Type 0 = λ b. Has b key value in
        (base, at, subst P is ((has_found equiv same (base_of bases i) key value distinct).1 found))
    | inr past ↦
        let empty : base_of bases i ≡ [] = get_or_past bases i [] past.0 in
        let P : Base K V → Type 0 = λ b. Has b key value in
        let (until, stands) = subst P empty ((has_found equiv same (base_of bases i) key value distinct).1 found) in
        absurd (omega (arith, stands.1))
  ]),
)

-- The bases of a router

pub looks_up_links : LooksUpLinks
looks_up_links s i key link distinct = has_found_on link_equiv same_link s.bases.neighbourhood.links i key link distinct

pub looks_up_two_hops : LooksUpTwoHops
looks_up_two_hops s i key t distinct = has_found_on two_hop_equiv same_two_hop s.bases.neighbourhood.two_hops i key t distinct

pub looks_up_neighbours : LooksUpNeighbours
looks_up_neighbours s originator n distinct = has_found addr_equiv same_addr s.bases.neighbourhood.neighbours originator n distinct

pub looks_up_losts : LooksUpLosts
looks_up_losts s a lost distinct = has_found addr_equiv same_addr s.bases.neighbourhood.losts a lost distinct

pub looks_up_advertisers : LooksUpAdvertisers
looks_up_advertisers s o t distinct = has_found addr_equiv same_addr s.bases.topology.advertisers o t distinct

pub looks_up_routers : LooksUpRouters
looks_up_routers s key t distinct = has_found router_equiv same_router s.bases.topology.routers key t distinct

pub looks_up_addresses : LooksUpAddresses
looks_up_addresses s key t distinct = has_found address_equiv same_address s.bases.topology.addresses key t distinct

pub looks_up_networks : LooksUpNetworks
looks_up_networks s key t distinct = has_found network_equiv same_network s.bases.topology.networks key t distinct
