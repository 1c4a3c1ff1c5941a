-- The nodes outside a router: neither own addresses nor own attached networks.
use Rattle.mesh_routes.proofs.Common.{◌≡◌, ◌≢◌, ◌⊎◌, inl, inr, refl, sym, ap, subst, List, Contains, cases_eq, Addr4, NetAddr, Attached4, Interface, host, HasAddressIn, IsOutside, State, IsOriginator, same_net, same_node, HasNetworkIn, IsOutsideOf, contains_or_not, originator_address as is_mine, contains_at as at_place, place_in as place_of}
use Rattle.mesh_paths.proofs.SettledDecisions.{any_or_none}

module _ (s : State) where
  pub out_of : (node : NetAddr) → IsOutsideOf s.settings node → IsOutside s node
  out_of node out = record {
    no_address = λ a has e.
        let (i, (face, at, within)) = has in
        let of_node : Contains face.addrs node.addr =
        subst (λ (x : Addr4). Contains face.addrs x) (sym (ap (λ (n : NetAddr). n.addr) e)) within in
        out.0 (ap (λ (n : NetAddr). n.prefix) e, (face, at_place s.settings.interfaces i face at, of_node));
    no_network = λ att has e. out.1 (att, has, e);
  }

  pub to_out : (node : NetAddr) → IsOutside s node → IsOutsideOf s.settings node
  to_out node out = (
    λ mine.
        let (prefix, (face, has, within)) = mine in
        let (i, at) = place_of s.settings.interfaces face has in
        out.no_address node.addr (i, (face, at, within)) (same_net node (host node.addr) refl prefix),
    λ net. out.no_network net.0 net.1 net.2,
  )

  pub beyond : (self : Addr4) → IsOriginator s.settings self → (node : NetAddr) → IsOutside s node → node ≢ host self
  beyond self is_self node out at = out.no_address self (is_mine s.settings self is_self) at

-- A node is outside, or it isn't

address_or_not : (faces : List Interface) (a : Addr4) → HasAddressIn faces a ⊎ (HasAddressIn faces a → ⊥)
address_or_not faces a = elim (any_or_none (λ (face : Interface). Contains face.addrs a) (λ face. contains_or_not face.addrs a) faces) [
  | inl (face, has, within) ↦ inl (face, has, within)
  | inr none ↦ inr (λ has. none has.0 has.1 has.2)
]

network_or_not : (attached : List Attached4) (node : NetAddr) → HasNetworkIn attached node ⊎ (HasNetworkIn attached node → ⊥)
network_or_not attached node = elim (any_or_none (λ (att : Attached4). att.net ≡ node) (λ att. same_node att.net node) attached) [
  | inl (att, has, is) ↦ inl (att, has, is)
  | inr none ↦ inr (λ has. none has.0 has.1 has.2)
]

pub outside_or_not : (s : State) (node : NetAddr) → (IsOutside s node → ⊥) ⊎ IsOutside s node
outside_or_not s node = elim (network_or_not s.settings.attached node) [
  | inl net ↦ inl (λ out. (to_out s node out).1 net)
  | inr no_net ↦ elim (cases_eq node.prefix 32) [
    | inr long ↦ inr (out_of s node ((λ mine. long mine.0), no_net))
    | inl whole ↦ elim (address_or_not s.settings.interfaces node.addr) [
      | inl mine ↦ inl (λ out. (to_out s node out).0 (whole, mine))
      | inr other ↦ inr (out_of s node ((λ mine. other mine.1), no_net))
    ]
  ]
]
