-- The same neighbourhood but for moments, and the same topology, give the same of all that routes and graphs are made of.
use Rattle.mesh_routes.proofs.Common.{◌≡◌, ◌↔◌, ℕ, refl, sym, ◌∙◌, ap, subst, Option, Some, None, Bool, true, false, cond, option_map, IsEquivalence, Addr4, Metric, LinkKey, TwoHopKey, Link, TwoHop, Neighbour, RouterSettings, Base, Has, HasDistinctKeys, find, IsWayTo, HasTables, SoundNeighbourhood, SoundTopology, Neighbourhood, TopologyBase, State, is_symmetric, link_at, two_hop_at, neighbour_at, HasTwoHop, HasSymmetric, HasAddress, IsOriginator, tests_symmetric, looks_up_links, looks_up_two_hops, looks_up_neighbours, has_found, router_equiv, same_router, address_equiv, network_equiv, same_network, SameOwn, SameWays, SameTwoHops, BasesGiveSame}
use Rattle.mesh_atoms.proofs.Lookups.{same_address}
use Rattle.mesh_nbrs.specs.Same.{SameNear, way_at}
use Rattle.mesh_topo.specs.Same.{SameAdvertised}
use Rattle.mesh_topo.specs.TcSets.Same.{SaysSame}
use Rattle.mesh_topo.specs.TcSets.Tuples.{router_says, address_says, network_says}
use Rattle.mesh_routes.proofs.StayingLaw.{TellsAlso, same_own, arcs_stay}

-- The same neighbourhood but for moments

near_back : {old new : Neighbourhood} {last now : ℕ} → SameNear old last new now → SameNear new now old last
near_back same = record { neighbours = λ q. sym (same.neighbours q); two_hops = λ i q. sym (same.two_hops i q); ways = λ i key. sym (same.ways i key) }

-- the record that stands in the one base stands in the other
tuple_by : {V : Type 0} (x : V) (was is : Option (V × ℕ)) → option_map (λ (e : V × ℕ). e.0) is ≡ option_map (λ (e : V × ℕ). e.0) was → (until : ℕ) → was ≡ Some (x, until) → (moment : ℕ) × (is ≡ Some (x, moment))
tuple_by x was None same until at = absurd (let e = same ∙ ap (option_map (λ e. e.0)) at in cc)
tuple_by {V} x was (Some e) same until at =
    let value : e.0 ≡ x = (let f = same ∙ ap (option_map (λ (e : V × ℕ). e.0)) at in cc) in (e.1, ap (λ (y : V). let o : Option (V × ℕ) = Some (y, e.1) in o) value)

-- a way is by a SYMMETRIC link
way_from : (later : ℕ) (o : Option (Link × ℕ)) (m : Metric) → way_at later o ≡ Some m → (e : Link × ℕ) × (o ≡ Some e) × (is_symmetric e.0 later ≡ true) × (e.0.link_out ≡ Some m)
way_from later None m is = absurd cc
way_from later (Some e) m is = by_case (is_symmetric e.0 later) refl is
  where
    by_case : (b : Bool) → is_symmetric e.0 later ≡ b → cond b e.0.link_out None ≡ Some m → (f : Link × ℕ) × (Some e ≡ Some f) × (is_symmetric f.0 later ≡ true) × (f.0.link_out ≡ Some m)
    by_case true symmetric out = (e, refl, symmetric, out)
    by_case false symmetric out = absurd cc

way_to : (now : ℕ) (e : Link × ℕ) (m : Metric) → is_symmetric e.0 now ≡ true → e.0.link_out ≡ Some m → way_at now (Some e) ≡ Some m
way_to now e m symmetric out = ap (λ (b : Bool). cond b e.0.link_out None) symmetric ∙ out

module _ (s t : State) (now later : ℕ) (S : HasTables s.bases.neighbourhood) (T : HasTables t.bases.neighbourhood) (same : SameNear s.bases.neighbourhood now t.bases.neighbourhood later) where
  two_hop_by : (i : ℕ) (key : TwoHopKey) (x : TwoHop) → HasTwoHop s i key x → HasTwoHop t i key x
  two_hop_by i key x has =
      let (until, at) = (looks_up_two_hops s i key x (S.two_hops i)).0 has in
      (looks_up_two_hops t i key x (T.two_hops i)).1 (tuple_by x (two_hop_at s.bases.neighbourhood i key) (two_hop_at t.bases.neighbourhood i key) (same.two_hops i key) until at)

  neighbour_by : (o : Addr4) (n : Neighbour) → HasSymmetric s o n → HasSymmetric t o n
  neighbour_by o n (has, symmetric) =
      let (until, at) = (looks_up_neighbours s o n S.neighbours).0 has in
      ((looks_up_neighbours t o n T.neighbours).1 (tuple_by n (neighbour_at s.bases.neighbourhood o) (neighbour_at t.bases.neighbourhood o) (same.neighbours o) until at), symmetric)

  way_by : (n : Neighbour) (i : ℕ) (key : LinkKey) (m : Metric) → IsWayTo s now n i key m → IsWayTo t later n i key m
  way_by n i key m way =
      let (until, at) = (looks_up_links s i key way.link (S.links i)).0 way.stands in
      let was : way_at now (link_at s.bases.neighbourhood i key) ≡ Some m = ap (way_at now) at ∙ way_to now (way.link, until) m ((tests_symmetric way.link now).1 way.state) way.out in
      let (e, is, symmetric, out) = way_from later (link_at t.bases.neighbourhood i key) m (same.ways i key ∙ was) in
      record {
        link = e.0;
        stands = (looks_up_links t i key e.0 (T.links i)).1 (e.1, is);
        state = (tests_symmetric e.0 later).0 symmetric;
        of_it = way.of_it;
        out = out;
      }

-- The same is advertised

-- a tuple that stands in the one base stands in the other, at the same metric
says_also : {K V : Type 0} {eq : K → K → Bool} → IsEquivalence eq → ((k l : K) → eq k l ≡ true → k ≡ l) → (says : V → Option ℕ × Metric) (old new : Base K V) → HasDistinctKeys eq old → HasDistinctKeys eq new →
    SaysSame eq says old new → (key : K) (x : V) → Has old key x → (y : V) × Has new key y × ((says y).1 ≡ (says x).1)
says_also {K} {V} {eq} laws exact says old new distinct distinct_new same key x has =
    let (until, found) = (has_found laws exact old key x distinct).0 has in
    by_found (find eq new key) refl (same key ∙ ap (option_map (λ (e : V × ℕ). says e.0)) found)
  where
    by_found : (o : Option (V × ℕ)) → find eq new key ≡ o → option_map (λ (e : V × ℕ). says e.0) o ≡ Some (says x) → (y : V) × Has new key y × ((says y).1 ≡ (says x).1)
    by_found None is says_same = absurd cc
    by_found (Some e) is says_same =
        let one : says e.0 ≡ says x = cc in
        (e.0, (has_found laws exact new key e.0 distinct_new).1 (e.1, is), ap (λ (p : Option ℕ × Metric). p.1) one)

tells_also : {settings r : RouterSettings} {last now : ℕ} {old new : TopologyBase} → SoundTopology settings last old → SoundTopology r now new → SameAdvertised old new → TellsAlso old new
tells_also {old = old} {new = new} sound sound_new same = record {
  routers = says_also router_equiv same_router router_says old.routers new.routers sound.routers.distinct sound_new.routers.distinct same.routers;
  addresses = says_also address_equiv same_address address_says old.addresses new.addresses sound.addresses.distinct sound_new.addresses.distinct same.addresses;
  networks = says_also network_equiv same_network network_says old.networks new.networks sound.networks.distinct sound_new.networks.distinct same.networks;
}

advertised_back : {old new : TopologyBase} → SameAdvertised old new → SameAdvertised new old
advertised_back same = record { routers = λ q. sym (same.routers q); addresses = λ q. sym (same.addresses q); networks = λ q. sym (same.networks q) }

-- The whole

pub tables_of : {settings : RouterSettings} {now : ℕ} {near : Neighbourhood} → SoundNeighbourhood settings now near → HasTables near
tables_of sound = record { links = sound.distinct_links; two_hops = λ i. (sound.two_hops i).distinct; neighbours = sound.distinct_neighbours; losts = sound.distinct_losts }

pub bases_give_same : BasesGiveSame
bases_give_same s t now later sound tables topology topology_later settings same advertised =
    let S : HasTables s.bases.neighbourhood = tables_of sound in
    let back = near_back same in
    let own : SameOwn s t = same_own s t
    (λ a. subst (λ (r : RouterSettings). IsOriginator s.settings a ↔ IsOriginator r a) (sym settings) (λ x. x, λ x. x))
    (λ a. subst (λ (r : RouterSettings). HasAddress s.settings a ↔ HasAddress r a) (sym settings) (λ x. x, λ x. x))
    (ap (λ (r : RouterSettings). r.attached) settings) in
    let ways : SameWays s now t later = record {
      neighbours = λ o n. (neighbour_by s t now later S tables same o n, neighbour_by t s later now tables S back o n);
      ways = λ n i key m. (way_by s t now later S tables same n i key m, way_by t s later now tables S back n i key m);
    } in
    let two_hops : SameTwoHops s t = λ i key x. (two_hop_by s t now later S tables same i key x, two_hop_by t s later now tables S back i key x) in
    (own, arcs_stay own ways two_hops (tells_also topology topology_later advertised) (tells_also topology_later topology (advertised_back advertised)), ways, two_hops)
