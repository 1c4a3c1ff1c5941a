-- Laws of what rows of a HELLO say by LOCAL_IF, LINK_STATUS and OTHER_NEIGHB, type by type.
use Rattle.mesh_wire.proofs.Common.{common_steps, ◌≡◌, ℕ, ◌<◌, ◌⊎◌, refl, arith, true, Contains, Option, Some, None, IsSome, nat_le, nat_lt, option_map, ltb-true, and_parts as both, All-from_recursion, All-contains, NetAddr, LocalIf, HelloRow, IsAlone, contains_at, some_equal, AddressParts, OctetKind, local_value, link_value, other_value, row_octet, local_from, link_from, other_from, sender_row, row_with, statuses, hello_kinds, type_of, IsStatusType, is_within, is_value, at, MPR, LINK_METRIC, value_from}
use Rattle.mesh_atoms.specs.declared.hello.LinkStatus.{LinkStatus}
use Rattle.mesh_atoms.specs.declared.hello.OtherStatus.{OtherStatus}
use Rattle.mesh_wire.specs.declared.octets.OctetKind.TheVariants as kinds
use Rattle.mesh_wire.proofs.OctetKinds.{place_of}
use Rattle.mesh_wire.proofs.Single.{told_by}

-- a fact of each status
each : (P : OctetKind → Type 0) → P kinds.Local → P kinds.Link → P kinds.Other → (kind : OctetKind) → Contains statuses kind → P kind
each P local link other kind among = All-contains P statuses kind (All-from_recursion P statuses (local, (link, (other, tt)))) among

pub local_among : Contains statuses kinds.Local
local_among = contains_at statuses 0 kinds.Local refl

-- a row has octets of the types of a HELLO alone
pub row_kind : (row : HelloRow) (kind : OctetKind) (n : ℕ) → row_octet row kind ≡ Some n → Contains hello_kinds kind
unfolding place_of
row_kind row kinds.AddrType n e = cc
row_kind row kinds.Gateway n e = cc
row_kind row kind n e = contains_at hello_kinds (place_of (type_of kind) hello_kinds) kind refl

-- they are of other types than relays and metrics
pub apart : (type : ℕ) → IsStatusType type → (type ≡ MPR → ⊥) × (type ≡ LINK_METRIC → ⊥)
apart type h1 = grind (arith, common_steps, type_of)

-- ---- rows that are made of what is kept

back_again : {X : Type 0} (value : X → ℕ) (from : ℕ → X) (o : Option ℕ) → ((n : ℕ) → o ≡ Some n → value (from n) ≡ n) → option_map value (option_map from o) ≡ o
back_again value from o back = grind (arith, common_steps)

-- a value of the type is below its bound
below_of : (low bound n : ℕ) → is_within low bound n ≡ true → n < bound
below_of low bound n e = ltb-true n bound (both (nat_le low n) (nat_lt n bound) e).1

local_back : (n : ℕ) → is_value kinds.Local n ≡ true → local_value (local_from n) ≡ n
local_back n h = grind (arith, common_steps, below_of)

link_back : (n : ℕ) → is_value kinds.Link n ≡ true → link_value (link_from n) ≡ n
link_back n h = grind (arith, common_steps, below_of)

other_back : (n : ℕ) → is_value kinds.Other n ≡ true → other_value (other_from n) ≡ n
other_back n h = grind (arith, common_steps, below_of)

-- an octet that is kept is a value of the type
abbrev pub IsKept : AddressParts → OctetKind → Type 0
IsKept t kind = (n : ℕ) → value_from (at kind t.parts.octets).one ≡ Some n → is_value kind n ≡ true

none_mapped : {X : Type 0} (from : ℕ → X) (o : Option ℕ) → option_map from o ≡ None → None ≡ o
none_mapped from o e = grind (arith, common_steps)

-- the row of the sender's address says its LOCAL_IF
pub local_made : (t : AddressParts) → IsKept t kinds.Local → option_map local_value (option_map local_from (value_from t.parts.octets.local.one)) ≡ value_from t.parts.octets.local.one
local_made t kept = back_again local_value local_from (value_from t.parts.octets.local.one) (λ n e. local_back n (kept n e))

-- the row of another address says what is kept
pub made : (t : AddressParts) → option_map local_from (value_from t.parts.octets.local.one) ≡ None → (kind : OctetKind) → Contains statuses kind → IsKept t kind → row_octet (row_with t None) kind ≡ value_from (at kind t.parts.octets).one
made t none = each (λ kind. IsKept t kind → row_octet (row_with t None) kind ≡ value_from (at kind t.parts.octets).one)
    (λ kept. none_mapped local_from (value_from t.parts.octets.local.one) none)
    (λ kept. back_again link_value link_from (value_from t.parts.octets.link.one) (λ n e. link_back n (kept n e)))
    (λ kept. back_again other_value other_from (value_from t.parts.octets.other.one) (λ n e. other_back n (kept n e)))

-- ---- values that rows have

-- the octet is a value of the type, and the row has a status
abbrev IsDefined : HelloRow → OctetKind → Type 0
IsDefined row kind = (n : ℕ) → row_octet row kind ≡ Some n → (is_value kind n ≡ true) × (IsSome row.local ⊎ (IsSome row.link ⊎ IsSome row.other))

value_of : {X : Type 0} (value : X → ℕ) (kind : OctetKind) → ((x : X) → is_value kind (value x) ≡ true) → (o : Option X) (n : ℕ) → option_map value o ≡ Some n → (is_value kind n ≡ true) × IsSome o
value_of value kind valid o n e = grind (arith, common_steps, some_equal)

local_valid : (x : LocalIf) → is_value kinds.Local (local_value x) ≡ true
local_valid x = grind (arith, common_steps)

link_valid : (x : LinkStatus) → is_value kinds.Link (link_value x) ≡ true
link_valid x = grind (arith, common_steps)

other_valid : (x : OtherStatus) → is_value kinds.Other (other_value x) ≡ true
other_valid x = grind (arith, common_steps)

pub defined : (row : HelloRow) (kind : OctetKind) → Contains statuses kind → IsDefined row kind
defined row = grind (arith, common_steps, value_of, local_valid, link_valid, other_valid)

-- ---- rows that say the same

local_again : (x : LocalIf) → local_from (local_value x) ≡ x
local_again x = grind (arith, common_steps)

link_again : (x : LinkStatus) → link_from (link_value x) ≡ x
link_again x = grind (arith, common_steps)

other_again : (x : OtherStatus) → other_from (other_value x) ≡ x
other_again x = grind (arith, common_steps)

pub same_local : (r s : HelloRow) → row_octet r kinds.Local ≡ row_octet s kinds.Local → r.local ≡ s.local
same_local r s e = told_by local_value local_from local_again r.local s.local e

same_fields : (r s : HelloRow) → r.addr ≡ s.addr → r.local ≡ s.local → r.link ≡ s.link → r.other ≡ s.other → r.metrics ≡ s.metrics → r.mpr ≡ s.mpr → r ≡ s
same_fields r s a l k o m p = grind (arith, common_steps)

pub same_row : (r s : HelloRow) → r.addr ≡ s.addr → ((kind : OctetKind) → Contains statuses kind → row_octet r kind ≡ row_octet s kind) → r.metrics ≡ s.metrics → r.mpr ≡ s.mpr → r ≡ s
same_row r s a same m p =
    same_fields r s a (same_local r s (same kinds.Local local_among))
    (told_by link_value link_from link_again r.link s.link (same kinds.Link (contains_at statuses 1 kinds.Link refl)))
    (told_by other_value other_from other_again r.other s.other (same kinds.Other (contains_at statuses 2 kinds.Other refl))) m p

-- a row of the sender's, of which nothing else is said
pub sender_alone : (addr : NetAddr) (local : Option LocalIf) → IsAlone (sender_row addr local)
sender_alone addr local = record { link = refl; other = refl; metrics = refl; mpr = refl }

pub alone_row : (r : HelloRow) → IsAlone r → r ≡ sender_row r.addr r.local
alone_row r h = same_fields r (sender_row r.addr r.local) refl refl h.link h.other h.metrics h.mpr
