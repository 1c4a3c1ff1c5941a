-- TLVs by their fields, without where their values lie in memory.
use Rattle.std.specs.Prelude.{ℕ, List, Option, Bool, false}
use Rattle.std.specs.Option.{option_copied}
use Rattle.mesh_tlv.specs.declared.tlv.Tlv.{Tlv}
use Rattle.mesh_tlv.specs.declared.tlv.AddrTlv.{AddrTlv}
use Rattle.mesh_tlv.specs.Items.{all_by_fields}

-- a packet or message TLV
pub record TlvFields : Type 0 where
  pub kind : ℕ
  pub ext : ℕ
  pub value : Option (List ℕ)

-- an address TLV, which covers the addresses from `first` to `last`
pub record AddrTlvFields : Type 0 where
  pub kind : ℕ
  pub ext : ℕ
  pub first : ℕ
  pub last : ℕ
  pub multi : Bool
  pub value : Option (List ℕ)

-- the fields of a packet or message TLV
abbrev pub fields : Tlv → TlvFields
fields t = record { kind = t.kind; ext = t.ext; value = option_copied t.value }

-- the fields of an address TLV
abbrev pub addr_fields : AddrTlv → AddrTlvFields
addr_fields t = record { kind = t.kind; ext = t.ext; first = t.first; last = t.last; multi = t.multi; value = option_copied t.value }

-- a packet or message TLV as one of a block of one address, which it covers
abbrev pub indexed : TlvFields → AddrTlvFields
indexed t = record { kind = t.kind; ext = t.ext; first = 0; last = 0; multi = false; value = t.value }

-- an address TLV without what it covers
abbrev pub unindexed : AddrTlvFields → TlvFields
unindexed t = record { kind = t.kind; ext = t.ext; value = t.value }

-- what was read of a block of packet or message TLVs, and the place after it
abbrev pub block_fields : List Tlv × ℕ → List TlvFields × ℕ
block_fields = all_by_fields fields

-- what was read of a block of address TLVs, and the place after it
abbrev pub addr_block_fields : List AddrTlv × ℕ → List AddrTlvFields × ℕ
addr_block_fields = all_by_fields addr_fields
