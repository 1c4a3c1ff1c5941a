-- The types of address TLV whose values are one octet (RFC 6130, section 10; RFC 7181, section 13.3).
use Rattle.std.specs.Prelude.{◌≡◌, ℕ, List, [], ◌∷◌, ◌++◌, Contains, Option, Some, None, Bool, true, false, IsTrue, ◌&&◌, nat_le, nat_lt}
use Rattle.mesh_atoms.specs.declared.tlv_type.TheConstants.{LOCAL_IF, LINK_STATUS, OTHER_NEIGHB, MPR, NBR_ADDR_TYPE, GATEWAY}
use Rattle.mesh_wire.specs.declared.octets.OctetKind.{OctetKind}
use Rattle.mesh_wire.specs.declared.octets.OctetKind.TheVariants.{Local, Link, Other, Mpr, AddrType, Gateway}
use Rattle.mesh_wire.specs.declared.octets.ByKind.{ByKind}

-- those of which a HELLO has one defined value on an address, which is a whole one
abbrev pub statuses : List OctetKind
statuses = Local ∷ (Link ∷ (Other ∷ []))

-- those of a HELLO
abbrev pub hello_kinds : List OctetKind
hello_kinds = statuses ++ Mpr ∷ []

-- those of a TC
abbrev pub tc_kinds : List OctetKind
tc_kinds = AddrType ∷ (Gateway ∷ [])

-- all of them, in the order in which they are written
abbrev pub kinds : List OctetKind
kinds = hello_kinds ++ tc_kinds

-- the type by its number
abbrev pub type_of : OctetKind → ℕ
type_of Local = LOCAL_IF
type_of Link = LINK_STATUS
type_of Other = OTHER_NEIGHB
type_of Mpr = MPR
type_of AddrType = NBR_ADDR_TYPE
type_of Gateway = GATEWAY

-- a LOCAL_IF, LINK_STATUS or OTHER_NEIGHB by its number
abbrev pub IsStatusType : ℕ → Type 0
IsStatusType type = (kind : OctetKind) × Contains statuses kind × (type ≡ type_of kind)

-- whether an octet is in a range
abbrev pub is_within : ℕ → ℕ → ℕ → Bool
is_within low bound n = nat_le low n && nat_lt n bound

-- whether an octet is a value of the type
abbrev pub is_value : OctetKind → ℕ → Bool
is_value Local n = is_within 0 2 n
is_value Link n = is_within 0 3 n
is_value Other n = is_within 0 2 n
is_value Mpr n = is_within 1 4 n
is_value AddrType n = is_within 1 4 n
is_value Gateway n = true

-- one octet, which is a value of the type
abbrev pub IsOctetOf : OctetKind → List ℕ → Type 0
IsOctetOf kind octets = (octet : ℕ) × (octets ≡ octet ∷ []) × IsTrue (is_value kind octet)

-- two flags, 1 and 2, in one octet; none where neither is set
abbrev pub flags_number : Bool → Bool → Option ℕ
flags_number false false = None
flags_number true false = Some 1
flags_number false true = Some 2
flags_number true true = Some 3

-- what there is for the type
abbrev pub at : {T : Type 0} → OctetKind → ByKind T → T
at Local by = by.local
at Link by = by.link
at Other by = by.other
at Mpr by = by.mpr
at AddrType by = by.addr_type
at Gateway by = by.gateway

-- one thing for each type
abbrev pub by_kind : {T : Type 0} → (OctetKind → T) → ByKind T
by_kind f = record { local = f Local; link = f Link; other = f Other; mpr = f Mpr; addr_type = f AddrType; gateway = f Gateway }
