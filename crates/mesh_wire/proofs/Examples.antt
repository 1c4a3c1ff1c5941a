-- Small messages and what they read as.
use Rattle.mesh_wire.proofs.Common.{common_steps, ◌≡◌, ℕ, ◌≤◌, inl, inr, List, [], ◌∷◌, refl, sym, ap, subst, ◌∙◌, arith, lit≤, lit<, Contains, Option, Some, None, slice_get, NetAddr, HelloRow, HelloIs, IsReadHelloRow, LOCAL_IF, LINK_STATUS, LINK_METRIC, TlvFields, AddrTlvFields, BlockFields, MessageFields, part_at, octets_of, HoldsAddressAt, HoldsAddress, HasPart, HasValue, BreaksHello, HopLimit, HopCount, WrongWilling, Undefined, TwoValues, FirstBroken, Keeps, own, own_net, local, own_block, lone, own_row, lone_hello, bare, near, near_net, states, two_near, OctetKind, Local, type_of, is_value, IsOctetOf, same_net, contains_one as only}
use Rattle.mesh_wire.specs.HelloRules.{AddressWidth, NoValidity, WrongInterval, ShortPrefix, WrongMetric}
use Rattle.mesh_wire.proofs.OctetKinds.{same_type}

-- ---- lists of one

pub first_only : {A : Type 0} (x y : A) (place : ℕ) → slice_get (x ∷ []) place ≡ Some y → x ≡ y
first_only x y place e = grind (arith, common_steps)

-- ---- a TLV says its value of each address that it covers

pub says : (m : MessageFields) (block : BlockFields) (place : ℕ) (net : NetAddr) (tlv : AddrTlvFields) (kind : ℕ) (octets : List ℕ) →
    HoldsAddressAt m block place net → Contains block.tlvs tlv → tlv.first ≤ place → place ≤ tlv.last → record { kind = kind; ext = 0; value = Some octets } ≡ part_at tlv place → HasValue m net kind octets
says m block place net tlv kind octets at there first last is =
    (Some octets, record { block = block; place = place; tlv = tlv; address = at; in_block = there; first = first; last = last; part_is = is }, refl)

-- ---- the HELLO of a router that hears nobody: its own address, on the interface that sends

own_at : HoldsAddressAt lone own_block 0 own_net
own_at = record { address = own; in_message = (0, lit< tt, refl); in_block = refl; is_in = record { prefix = refl; number = refl } }

own_local : HasValue lone own_net LOCAL_IF (0 ∷ [])
own_local = says lone own_block 0 own_net local LOCAL_IF (0 ∷ []) own_at (0, lit< tt, refl) (lit≤ tt) (lit≤ tt) refl

own_row_is : IsReadHelloRow lone own_row
own_row_is = grind (arith, common_steps, own_local)

-- no other address is in it
only_own : (net : NetAddr) → HoldsAddress lone net → own_net ≡ net
only_own net h1 = grind (arith, common_steps, first_only, same_net)

pub lone_is : HelloIs lone lone_hello
lone_is = record {
  originator = refl;
  validity = ((100 ∷ [], refl, refl, refl), lit< tt);
  interval = (88 ∷ [], refl, refl, refl);
  willing = (119, inr refl, refl, refl);
  rows = record {
    ascending = λ i j d lt less. absurd (omega arith);
    each = λ row holds. subst (λ (r : HelloRow). HoldsAddress lone r.addr × IsReadHelloRow lone r) (only own_row row holds) ((own_block, 0, own_at), own_row_is);
    all = λ net has. (own_row, (0, lit< tt, refl), only_own net has);
  };
}

-- it says LOCAL_IF of its address, and nothing else
pub part_only : (net : NetAddr) (part : TlvFields) → HasPart lone net part → part ≡ record { kind = 2; ext = 0; value = Some (0 ∷ []) }
part_only net part h = grind (arith, common_steps)

says_only : (net : NetAddr) (kind : ℕ) (octets : List ℕ) → HasValue lone net kind octets → (kind ≡ 2) × (octets ≡ 0 ∷ []) × (own_net ≡ net)
says_only net kind octets (value, h, is) =
    let part = part_only net (record { kind = kind; ext = 0; value = value }) h in
    (ap (λ (p : TlvFields). p.kind) part, is ∙ ap (λ (p : TlvFields). octets_of p.value) part, only_own net (h.block, h.place, h.address))

no_metric : (net : NetAddr) (octets : List ℕ) → HasValue lone net LINK_METRIC octets → ⊥
no_metric net octets said = (let e : ◌≡◌ {A = ℕ} 7 2 = (says_only net LINK_METRIC octets said).0 in omega arith)

defined : (kind : OctetKind) → type_of kind ≡ 2 → IsOctetOf kind (0 ∷ [])
defined kind e = (0, refl, ap (λ (k : OctetKind). is_value k 0) (same_type kind Local e))

pub lone_keeps : Keeps (BreaksHello lone)
lone_keeps n a (AddressWidth not_four) = not_four refl
lone_keeps n a (HopLimit limit is not_one) = cc
lone_keeps n a (HopCount count is not_zero) = cc
lone_keeps n a (NoValidity none) = none 49152 lone_is.validity
lone_keeps n a (WrongInterval none) = none (Some 16384) lone_is.interval
lone_keeps n a (WrongWilling none) = none 119 (inr refl)
lone_keeps n a (Undefined net kind among (octets, said, wrong)) =
    let is = says_only net (type_of kind) octets said in
    wrong (subst (IsOctetOf kind) (sym is.1) (defined kind is.0))
lone_keeps n a (TwoValues net kind among (x, y, said_x, said_y, other)) = other ((says_only net (type_of kind) x said_x).1 ∙ sym (says_only net (type_of kind) y said_y).1)
lone_keeps n a (ShortPrefix net kind among (octets, said) short) = grind (arith, common_steps, says_only, type_of)
lone_keeps n a (WrongMetric net (inl (octets, said, other))) = no_metric net octets said
lone_keeps n a (WrongMetric net (inr (kind, x, y, (high, low, said, flag, code), shows_y, other))) = no_metric net (high ∷ low ∷ []) said

-- ---- a message of nothing but its header breaks rule 23 first

first_is : (n : ℕ) (a : Option NetAddr) → BreaksHello bare n a → 23 ≤ n
first_is n a h2 = grind (arith, common_steps)

pub bare_broken : FirstBroken (BreaksHello bare) 23 None
bare_broken = record {
  broken = NoValidity (λ ticks is. (let e : [] ≡ is.0.0 ∷ [] = is.0.1 in cc));
  first = first_is;
  least = λ a breaks. tt;
}

-- ---- a multivalue gives each address of its range one part

near_at : HoldsAddressAt two_near (record { width = 4; addrs = own ∷ (own ∷ (near ∷ [])); tlvs = states ∷ [] }) 2 near_net
near_at = record { address = near; in_message = (0, lit< tt, refl); in_block = refl; is_in = record { prefix = refl; number = refl } }

pub heard_of_last : HasValue two_near near_net LINK_STATUS (2 ∷ [])
heard_of_last = says two_near _ 2 near_net states LINK_STATUS (2 ∷ []) near_at (0, lit< tt, refl) (lit≤ tt) (lit≤ tt) refl
