-- The rows of a message: its distinct addresses, each with all that the TLVs over it say.
use Rattle.std.specs.Prelude.{◌≡◌, ℕ, ◌≤◌, ◌⊎◌, ◌≢◌, List, [], ◌∷◌, length, Contains, AllPairs, Option, Some, None, slice_get}
use Rattle.mesh_atoms.specs.declared.addr.NetAddr.{NetAddr}
use Rattle.mesh_atoms.specs.Nodes.{IsBefore}
use Rattle.mesh_addr.specs.declared.records.RawAddr.{RawAddr}
use Rattle.mesh_tlv.specs.Fields.{TlvFields, AddrTlvFields}
use Rattle.mesh_packet.specs.Fields.{BlockFields, MessageFields}
use Rattle.mesh_wire.specs.Parts.{octets_of, IsIn, part_at}

-- the address at a place of a block of the message
pub record HoldsAddressAt (message : MessageFields) (block : BlockFields) (place : ℕ) (net : NetAddr) : Type 0 where
  pub address : RawAddr
  pub in_message : Contains message.blocks block
  pub in_block : slice_get block.addrs place ≡ Some address
  pub is_in : IsIn address net

-- the address is one of the message
abbrev pub HoldsAddress : MessageFields → NetAddr → Type 0
HoldsAddress message net = (block : BlockFields) × (place : ℕ) × HoldsAddressAt message block place net

-- an address TLV of the message says this of the address (RFC 5444, section 5.4)
pub record HasPart (message : MessageFields) (net : NetAddr) (part : TlvFields) : Type 0 where
  pub block : BlockFields
  pub place : ℕ
  pub tlv : AddrTlvFields
  pub address : HoldsAddressAt message block place net
  pub in_block : Contains block.tlvs tlv
  pub first : tlv.first ≤ place
  pub last : place ≤ tlv.last
  pub part_is : part ≡ part_at tlv place

-- TLVs of that type, without extension, say these octets of the address
abbrev pub HasValue : MessageFields → NetAddr → ℕ → List ℕ → Type 0
HasValue message net kind octets =
    (value : Option (List ℕ)) × HasPart message net (record { kind = kind; ext = 0; value = value }) × (octets ≡ octets_of value)

-- the type stands on the address
abbrev pub HasType : MessageFields → NetAddr → ℕ → Type 0
HasType message net kind = (octets : List ℕ) × HasValue message net kind octets

-- the type has a value on the address that isn't of so many octets
abbrev pub HasOtherLength : MessageFields → NetAddr → ℕ → ℕ → Type 0
HasOtherLength message net kind n = (octets : List ℕ) × HasValue message net kind octets × (length octets ≢ n)

-- two different values of that type on one address
abbrev pub HasTwoValues : MessageFields → NetAddr → ℕ → Type 0
HasTwoValues message net kind = (a : List ℕ) × (b : List ℕ) × HasValue message net kind a × HasValue message net kind b × (a ≢ b)

-- the one octet that TLVs of that type say of the address, or that none says anything
abbrev pub OctetIs : MessageFields → NetAddr → ℕ → Option ℕ → Type 0
OctetIs message net kind (Some octet) = HasValue message net kind (octet ∷ [])
OctetIs message net kind None = (octets : List ℕ) → HasValue message net kind octets → ⊥

-- of two flags, 1 and 2, that one is said of the address, by itself or as 3; all TLVs count
abbrev pub SaysFlag : MessageFields → NetAddr → ℕ → ℕ → Type 0
SaysFlag message net kind flag = HasValue message net kind (flag ∷ []) ⊎ HasValue message net kind (3 ∷ [])

-- rows in ascending order of address, one for each address of the message, and each true
pub record AreRows {Row : Type 0} (message : MessageFields) (addr_of : Row → NetAddr) (IsRow : Row → Type 0) (rows : List Row) : Type 0 where
  pub ascending : AllPairs (λ a b. IsBefore (addr_of a) (addr_of b)) rows
  pub each : (row : Row) → Contains rows row → HoldsAddress message (addr_of row) × IsRow row
  pub all : (net : NetAddr) → HoldsAddress message net → (row : Row) × Contains rows row × (addr_of row ≡ net)
