-- The first nodes on the way from a router: addresses of its symmetric neighbours with a known metric.
use Rattle.mesh_routes.proofs.Common.{◌≡◌, ℕ, refl, sym, ◌∙◌, ap, subst, Some, None, true, IsTrue, Contains, Contains-from_lookup, lookup-from_Contains, Addr4, NetAddr, Metric, LinkKey, Link, Neighbour, RouterKey, AddressKey, NetworkKey, base_of, host, HasSymmetricOf, RouteArc, To_neighbour, To_two_hop, By_router, By_address, By_network, IsParent, SoundNeighbourhood, SoundTopology, State, IsOriginator, HasAddress, is_symmetric, FirstNode, AtSelf, Through, same_link, router_equiv, address_equiv, network_equiv, originator_address as is_mine}
use Rattle.mesh_atoms.specs.Words.{IsLeastMetric}
use Rattle.mesh_routes.proofs.KnownOwners.{entry_at}

-- the entry of a neighbour
abbrev pub Entry : Type 0
Entry = Addr4 × (Neighbour × ℕ)

-- an address of a symmetric neighbour with a known metric
abbrev pub IsFirst : State → NetAddr → Entry → Type 0
IsFirst s f e =
    Contains s.bases.neighbourhood.neighbours e
    × (IsTrue e.1.0.symmetric × ((a : Addr4) × Contains e.1.0.addrs a × (f ≡ host a) × ((k : Metric) × (e.1.0.metric_out ≡ Some k))))

-- parents lead back to an arc from the router itself
pub first_arc : {s : State} {self node f : NetAddr} → FirstNode (IsParent s self) self node f → (m : ℕ) × RouteArc s self f m
first_arc (AtSelf parent) = (parent.fits.metric, parent.fits.arc)
first_arc (Through parent away rest) = first_arc rest

module _ (s : State) (now : ℕ) (near_sound : SoundNeighbourhood s.settings now s.bases.neighbourhood) where
  module _ (self : Addr4) (is_self : IsOriginator s.settings self)
      (topology_sound : (past : ℕ) × SoundTopology s.settings past s.bases.topology) where
    -- the end of an arc from the router itself
    to_first : (x f : NetAddr) (m : ℕ) → RouteArc s x f m → x ≡ host self → (e : Entry) × IsFirst s f e
    to_first _ _ _ (To_neighbour {a = a} {m = m} o n is_other with out) at =
        ((o, (n, with.0.0.0)), (with.0.0.1, (with.0.1, (a, with.1, refl, (m, out)))))
    to_first _ _ _ (To_two_hop {o = o} i link t n has with willing out) at =
        let mine : o ≡ self = ap (λ (x : NetAddr). x.addr) at in
        let known = entry_at s.settings now s.bases.neighbourhood near_sound (o, (n, with.0.0.0)) with.0.0.1 in
        let own : HasAddress s.settings o = subst (HasAddress s.settings) (sym mine) (is_mine s.settings self is_self) in
        absurd ((near_sound.neighbour o n with.0.0.0 known).not_mine own)
    to_first _ _ _ (By_router {from = from} {to = to} t has) at =
        let mine : self ≡ from = sym (ap (λ (x : NetAddr). x.addr) at) in
        let key : RouterKey = record { from = from; to = to } in
        let none = topology_sound.1.not_my_router key (subst (IsOriginator s.settings) mine is_self) in
        let some = lookup-from_Contains router_equiv key (t, has.0) s.bases.topology.routers topology_sound.1.routers.distinct has.1 in
        let both : None ≡ Some (t, has.0) = sym none ∙ some in
        absurd cc
    to_first _ _ _ (By_address {from = from} {a = a} t has) at =
        let mine : self ≡ from = sym (ap (λ (x : NetAddr). x.addr) at) in
        let key : AddressKey = record { from = from; addr = a } in
        let none = topology_sound.1.not_my_address key (subst (IsOriginator s.settings) mine is_self) in
        let some = lookup-from_Contains address_equiv key (t, has.0) s.bases.topology.addresses topology_sound.1.addresses.distinct has.1 in
        let both : None ≡ Some (t, has.0) = sym none ∙ some in
        absurd cc
    to_first _ _ _ (By_network {from = from} {net = net} t has) at =
        let mine : self ≡ from = sym (ap (λ (x : NetAddr). x.addr) at) in
        let key : NetworkKey = record { from = from; net = net } in
        let none = topology_sound.1.not_my_network key (subst (IsOriginator s.settings) mine is_self) in
        let some = lookup-from_Contains network_equiv key (t, has.0) s.bases.topology.networks topology_sound.1.networks.distinct has.1 in
        let both : None ≡ Some (t, has.0) = sym none ∙ some in
        absurd cc

    pub first_of : (f : NetAddr) → (m : ℕ) × RouteArc s (host self) f m → (e : Entry) × IsFirst s f e
    first_of f (m, arc) = to_first (host self) f m arc refl

  -- a SYMMETRIC link of a neighbour has its known metric
  pub known_link : (e : Entry) → Contains s.bases.neighbourhood.neighbours e → (k : Metric) → e.1.0.metric_out ≡ Some k →
      (i : ℕ) × (key : LinkKey) × (link : Link) × (until : ℕ) × Contains (base_of s.bases.neighbourhood.links i) (key, (link, until))
      × Contains e.1.0.addrs key.addr × (is_symmetric link now ≡ true) × (link.link_out ≡ Some k)
  known_link e has k out =
      let sound = near_sound.neighbour e.0 e.1.0 e.1.1 (entry_at s.settings now s.bases.neighbourhood near_sound e has) in
      let P : Metric → Type 0 =
      λ m. (link : Link) × HasSymmetricOf s.bases.neighbourhood now e.1.0.addrs link × (link.link_out ≡ Some m) in
      let least : IsLeastMetric P (Some k) = subst (IsLeastMetric P) out sound.by_links.metric_out in
      let (link, (i, key, until, (within, at), symmetric), known) = least.0 in
      let stands = Contains-from_lookup same_link key (link, until) (base_of s.bases.neighbourhood.links i) at in
      (i, key, link, until, stands, within, symmetric, known)
