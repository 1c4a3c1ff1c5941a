-- Bases that are alike, and what expiry leaves of them.
use Rattle.mesh_trace.proofs.Common.{common_steps, ◌≡◌, ◌↔◌, ℕ, ◌≤◌, ◌+◌, ◌&&◌, refl, sym, ◌∙◌, ap, subst, arith, List, Option, Some, None, Bool, cond, IsTrue, Contains, Addr4, RouterSettings, LinkKey, Link, Neighbour, TwoHop, Base, Expires, Same, if_live, base_of, addr_eq, router_eq, address_eq, network_eq, flood_eq, HasLinkOf, HasSymmetricOf, KeepsNeighbour, Restores, IsSymmetricAddress, SettlesLost, LiveNeighbourhood, LiveTopology, LiveNoted, Live, trim, is_symmetric_at, Neighbourhood, TopologyBase, NotedMessages, Bases, link_at, neighbour_at, lost_at, least_only, same_neighbour, AlikeNear, AlikeTopology, AlikeNoted, AlikeBases}
use Rattle.mesh_atoms.specs.declared.tuples.Lost.{Lost}
use Rattle.mesh_atoms.specs.Quality.{admit_on}

-- ---- alike is alike both ways, and each is alike itself

pub near_back : (a b : Neighbourhood) → AlikeNear a b → AlikeNear b a
near_back a b h = grind (arith, common_steps)

pub topology_back : (a b : TopologyBase) → AlikeTopology a b → AlikeTopology b a
topology_back a b h = grind (arith, common_steps)

pub noted_back : (a b : NotedMessages) → AlikeNoted a b → AlikeNoted b a
noted_back a b h = grind (arith, common_steps)

pub bases_back : (a b : Bases) → AlikeBases a b → AlikeBases b a
bases_back a b h = grind (arith, common_steps, near_back, topology_back, noted_back)

pub near_itself : (a : Neighbourhood) → AlikeNear a a
near_itself a = grind (arith, common_steps)

pub topology_itself : (a : TopologyBase) → AlikeTopology a a
topology_itself a = grind (arith, common_steps)

pub noted_itself : (a : NotedMessages) → AlikeNoted a a
noted_itself a = grind (arith, common_steps)

pub bases_itself : (a : Bases) → AlikeBases a a
bases_itself a = grind (arith, common_steps, near_itself, topology_itself, noted_itself)

pub bases_on : (a b c : Bases) → AlikeBases a b → AlikeBases b c → AlikeBases a c
bases_on a b c h k = grind (arith, common_steps)

-- ---- what is the only one

pub flag_only : (x y : Bool) (P Q : Type 0) → (IsTrue x ↔ P) → (IsTrue y ↔ Q) → (P → Q) → (Q → P) → x ≡ y
flag_only x y P Q h k to back = grind (arith, common_steps)

-- ---- neighbours by links that are the same

-- the same links at each key, and the same neighbours
abbrev pub SameLinks : Neighbourhood → Neighbourhood → Type 0
SameLinks a b = (i : ℕ) (key : LinkKey) → link_at b i key ≡ link_at a i key

abbrev pub SameNeighbours : Neighbourhood → Neighbourhood → Type 0
SameNeighbours a b = (o : Addr4) → neighbour_at b o ≡ neighbour_at a o

has_link : (a b : Neighbourhood) → SameLinks a b → (xs ys : List Addr4) → xs ≡ ys → (i : ℕ) (key : LinkKey) (e : Link × ℕ) → HasLinkOf a xs i key e → HasLinkOf b ys i key e
has_link a b alike xs ys same i key e h = (subst (λ (l : List Addr4). Contains l key.addr) same h.0, alike i key ∙ h.1)

has_symmetric : (a b : Neighbourhood) → SameLinks a b → (now : ℕ) (xs ys : List Addr4) → xs ≡ ys → (link : Link) → HasSymmetricOf a now xs link → HasSymmetricOf b now ys link
has_symmetric a b alike now xs ys same link (i, key, until, has, symmetric) = (i, key, until, has_link a b alike xs ys same i key (link, until) has, symmetric)

-- with what stood, there is one neighbour
renews_only : (a b : Neighbourhood) → SameLinks a b → (now : ℕ) (old m n : Neighbour) (u v : ℕ) → KeepsNeighbour a now old m u → KeepsNeighbour b now old n v → (m ≡ n) × (u ≡ v)
renews_only a b alike now old m n u v h k =
    let same : m.addrs ≡ n.addrs = h.addrs ∙ sym k.addrs in
    let back : SameLinks b a = λ i key. sym (alike i key) in
    let symmetric : m.symmetric ≡ n.symmetric =
    flag_only m.symmetric n.symmetric ((link : Link) × HasSymmetricOf a now m.addrs link) ((link : Link) × HasSymmetricOf b now n.addrs link) h.by_links.symmetric k.by_links.symmetric
    (λ s. (s.0, has_symmetric a b alike now m.addrs n.addrs same s.0 s.1)) (λ s. (s.0, has_symmetric b a back now n.addrs m.addrs (sym same) s.0 s.1)) in
    let metric_in : m.metric_in ≡ n.metric_in =
    least_only (λ x. (link : Link) × HasSymmetricOf a now m.addrs link × (link.link_in ≡ x)) (λ x. (link : Link) × HasSymmetricOf b now n.addrs link × (link.link_in ≡ x)) m.metric_in n.metric_in
    (λ x s. (s.0, has_symmetric a b alike now m.addrs n.addrs same s.0 s.1, s.2)) (λ x s. (s.0, has_symmetric b a back now n.addrs m.addrs (sym same) s.0 s.1, s.2)) h.by_links.metric_in k.by_links.metric_in in
    let metric_out : m.metric_out ≡ n.metric_out =
    least_only (λ x. (link : Link) × HasSymmetricOf a now m.addrs link × (link.link_out ≡ Some x)) (λ x. (link : Link) × HasSymmetricOf b now n.addrs link × (link.link_out ≡ Some x)) m.metric_out n.metric_out
    (λ x s. (s.0, has_symmetric a b alike now m.addrs n.addrs same s.0 s.1, s.2)) (λ x s. (s.0, has_symmetric b a back now n.addrs m.addrs (sym same) s.0 s.1, s.2)) h.by_links.metric_out k.by_links.metric_out in
    let (i, key, link, at) = h.by_links.latest in
    let (j, key', link', at') = k.by_links.latest in
    let below : u ≤ v = k.by_links.no_later i key link u (has_link a b alike m.addrs n.addrs same i key (link, u) at) in
    let above : v ≤ u = h.by_links.no_later j key' link' v (has_link b a back n.addrs m.addrs (sym same) j key' (link', v) at') in
    (same_neighbour m n same symmetric metric_in metric_out (h.willing ∙ sym k.willing) (h.selector ∙ ap (λ (x : Bool). old.selector && x) symmetric ∙ sym k.selector), omega (arith, below, above))

pub restores_only : (a b : Neighbourhood) → SameLinks a b → (now : ℕ) (old x y : Option (Neighbour × ℕ)) → Restores a now old x → Restores b now old y → x ≡ y
restores_only a b alike now None x y h k = h ∙ sym k
restores_only a b alike now (Some e) None None h k = refl
restores_only a b alike now (Some e) (Some m) None h k =
    let (i, key, link, at) = h.by_links.latest in
    absurd (k i key (link, m.1) (has_link a b alike m.0.addrs e.0.addrs h.addrs i key (link, m.1) at))
restores_only a b alike now (Some e) None (Some n) h k =
    let (i, key, link, at) = k.by_links.latest in
    absurd (h i key (link, n.1) (has_link b a (λ i key. sym (alike i key)) n.0.addrs e.0.addrs k.addrs i key (link, n.1) at))
restores_only a b alike now (Some e) (Some m) (Some n) h k =
    let (same, until) = renews_only a b alike now e.0 m.0 n.0 m.1 n.1 h k in
    ap (λ (z : Neighbour). Some (z, m.1)) same ∙ ap (λ (z : ℕ). Some (n.0, z)) until

-- ---- lost addresses

pub symmetric_address : (a b : Neighbourhood) → SameNeighbours a b → (x : Addr4) → IsSymmetricAddress a x → IsSymmetricAddress b x
symmetric_address a b alike x (o, n, until, at, symmetric, among) = (o, n, until, alike o ∙ at, symmetric, among)

pub settles_only : (was is was' is' : Type 0) (until : ℕ) (stood x y : Option (Lost × ℕ)) → (was → was') → (was' → was) → (is → is') → (is' → is) →
    SettlesLost was is until stood x → SettlesLost was' is' until stood y → x ≡ y
settles_only was is was' is' until stood x y w w' t t' h12 h13 = grind (arith, common_steps)

pub settles_by : (was is was' is' : Type 0) (until : ℕ) (stood x : Option (Lost × ℕ)) → (was → was') → (was' → was) → (is → is') → (is' → is) →
    SettlesLost was is until stood x → SettlesLost was' is' until stood x
settles_by was is was' is' until stood x w w' t t' h11 = grind (arith, common_steps)

-- ---- what expiry leaves

module _ (settings : RouterSettings) (now : ℕ) where
  live_links : (a b a' b' : Neighbourhood) → AlikeNear a b → LiveNeighbourhood settings now a a' → LiveNeighbourhood settings now b b' → SameLinks a' b'
  live_links a b a' b' alike h k i key = grind (arith, common_steps)

  live_neighbours : (a b a' b' : Neighbourhood) → AlikeNear a b → LiveNeighbourhood settings now a a' → LiveNeighbourhood settings now b b' → SameNeighbours a' b'
  live_neighbours a b a' b' alike h k o =
      sym (restores_only a' b' (live_links a b a' b' alike h k) now (neighbour_at a o) (neighbour_at a' o) (neighbour_at b' o) (h.neighbours o)
      (subst (λ (e : Option (Neighbour × ℕ)). Restores b' now e (neighbour_at b' o)) (alike.neighbours o) (k.neighbours o)))

  live_losts : (a b a' b' : Neighbourhood) → AlikeNear a b → LiveNeighbourhood settings now a a' → LiveNeighbourhood settings now b b' → (x : Addr4) → lost_at b' x ≡ lost_at a' x
  live_losts a b a' b' alike h k x =
      let same = live_neighbours a b a' b' alike h k in
      sym (settles_only (IsSymmetricAddress a x) (IsSymmetricAddress a' x) (IsSymmetricAddress b x) (IsSymmetricAddress b' x) (now + settings.times.neighbour_hold)
      (if_live now (lost_at a x)) (lost_at a' x) (lost_at b' x)
      (symmetric_address a b alike.neighbours x) (symmetric_address b a (λ o. sym (alike.neighbours o)) x)
      (symmetric_address a' b' same x) (symmetric_address b' a' (λ o. sym (same o)) x)
      (h.losts x)
      (subst (λ (e : Option (Lost × ℕ)). SettlesLost (IsSymmetricAddress b x) (IsSymmetricAddress b' x) (now + settings.times.neighbour_hold) (if_live now e) (lost_at b' x)) (alike.losts x) (k.losts x)))

  pub live_near_only : (a b a' b' : Neighbourhood) → AlikeNear a b → LiveNeighbourhood settings now a a' → LiveNeighbourhood settings now b b' → AlikeNear a' b'
  live_near_only a b a' b' alike h k = grind (arith, common_steps, live_links, live_neighbours, live_losts)

  pub live_near_from : (a b a' : Neighbourhood) → AlikeNear a b → LiveNeighbourhood settings now a a' → LiveNeighbourhood settings now b a'
  live_near_from a b a' alike h = record {
    tables = h.tables;
    interfaces = h.interfaces ∙ sym alike.interfaces;
    two_hop_interfaces = h.two_hop_interfaces ∙ sym alike.two_hop_interfaces;
    links = λ i key. h.links i key ∙ sym (ap (λ (e : Option (Link × ℕ)). trim now (if_live now (admit_on settings i now e))) (alike.links i key));
    two_hops = λ i key. h.two_hops i key ∙ sym (ap (λ (e : Option (TwoHop × ℕ)). cond (is_symmetric_at a' now i key.link) (if_live now e) None) (alike.two_hops i key));
    neighbours = λ o. subst (λ (e : Option (Neighbour × ℕ)). Restores a' now e (neighbour_at a' o)) (sym (alike.neighbours o)) (h.neighbours o);
    losts = λ x.
        settles_by (IsSymmetricAddress a x) (IsSymmetricAddress a' x) (IsSymmetricAddress b x) (IsSymmetricAddress a' x) (now + settings.times.neighbour_hold) (if_live now (lost_at b x)) (lost_at a' x)
        (symmetric_address a b alike.neighbours x) (symmetric_address b a (λ o. sym (alike.neighbours o)) x) (λ is. is) (λ is. is)
        (subst (λ (e : Option (Lost × ℕ)). SettlesLost (IsSymmetricAddress a x) (IsSymmetricAddress a' x) (now + settings.times.neighbour_hold) (if_live now e) (lost_at a' x)) (sym (alike.losts x)) (h.losts x));
  }

-- what isn't expired of tables that say the same
expires_only : {K V : Type 0} (eq : K → K → Bool) (now : ℕ) (a b a' b' : Base K V) → Same eq a b → Expires eq now a a' → Expires eq now b b' → Same eq a' b'
expires_only eq now a b a' b' alike h k q = k q ∙ (ap (if_live now) (alike q) ∙ sym (h q))

expires_from : {K V : Type 0} (eq : K → K → Bool) (now : ℕ) (a b a' : Base K V) → Same eq a b → Expires eq now a a' → Expires eq now b a'
expires_from eq now a b a' alike h q = h q ∙ sym (ap (if_live now) (alike q))

pub live_topology_only : (now : ℕ) (a b a' b' : TopologyBase) → AlikeTopology a b → LiveTopology now a a' → LiveTopology now b b' → AlikeTopology a' b'
live_topology_only now a b a' b' alike h k = grind (arith, common_steps, expires_only)

pub live_noted_only : (now : ℕ) (a b a' b' : NotedMessages) → AlikeNoted a b → LiveNoted now a a' → LiveNoted now b b' → AlikeNoted a' b'
live_noted_only now a b a' b' alike h k = grind (arith, common_steps, expires_only)

-- expiry of alike bases leaves alike bases
pub live_only : (settings : RouterSettings) (now : ℕ) (a b a' b' : Bases) → AlikeBases a b → Live settings now a a' → Live settings now b b' → AlikeBases a' b'
live_only settings now a b a' b' alike h k = record {
  neighbourhood = live_near_only settings now a.neighbourhood b.neighbourhood a'.neighbourhood b'.neighbourhood alike.neighbourhood h.neighbourhood k.neighbourhood;
  topology = live_topology_only now a.topology b.topology a'.topology b'.topology alike.topology h.topology k.topology;
  noted = live_noted_only now a.noted b.noted a'.noted b'.noted alike.noted h.noted k.noted;
}

-- and what it leaves of the one, it may leave of the other
pub live_from : (settings : RouterSettings) (now : ℕ) (a b a' : Bases) → AlikeBases a b → Live settings now a a' → Live settings now b a'
live_from settings now a b a' alike h = record {
  neighbourhood = live_near_from settings now a.neighbourhood b.neighbourhood a'.neighbourhood alike.neighbourhood h.neighbourhood;
  topology = record {
    distinct_advertisers = h.topology.distinct_advertisers;
    distinct_routers = h.topology.distinct_routers;
    distinct_addresses = h.topology.distinct_addresses;
    distinct_networks = h.topology.distinct_networks;
    advertisers = expires_from addr_eq now a.topology.advertisers b.topology.advertisers a'.topology.advertisers alike.topology.advertisers h.topology.advertisers;
    routers = expires_from router_eq now a.topology.routers b.topology.routers a'.topology.routers alike.topology.routers h.topology.routers;
    addresses = expires_from address_eq now a.topology.addresses b.topology.addresses a'.topology.addresses alike.topology.addresses h.topology.addresses;
    networks = expires_from network_eq now a.topology.networks b.topology.networks a'.topology.networks alike.topology.networks h.topology.networks;
  };
  noted = record {
    distinct_received = h.noted.distinct_received;
    distinct_processed = h.noted.distinct_processed;
    distinct_forwarded = h.noted.distinct_forwarded;
    interfaces = h.noted.interfaces ∙ sym alike.noted.interfaces;
    received = λ i. expires_from flood_eq now (base_of a.noted.received i) (base_of b.noted.received i) (base_of a'.noted.received i) (alike.noted.received i) (h.noted.received i);
    processed = expires_from flood_eq now a.noted.processed b.noted.processed a'.noted.processed alike.noted.processed h.noted.processed;
    forwarded = expires_from flood_eq now a.noted.forwarded b.noted.forwarded a'.noted.forwarded alike.noted.forwarded h.noted.forwarded;
  };
}
