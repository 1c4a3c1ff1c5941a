-- What is read of an address block's TLVs can be written.
use Rattle.mesh_tlv.proofs.Common.{ℕ, ◌<◌, ◌≤◌, Bool, List, [], ◌∷◌, arith, All, common_steps, All-nil, All-cons, AddrTlvFields, SpellsItems, SpellsIndex, SpellsAddrTlv, IsFit}

index_fit : (single several : Bool) (count first last : ℕ) (text : List ℕ) → 0 < count → SpellsIndex single several count first last text → (first ≤ last) × (last < count)
index_fit single several count first last text pos h = grind (arith, common_steps)

tlv_fit : (count : ℕ) (tlv : AddrTlvFields) (bytes : List ℕ) → 0 < count → SpellsAddrTlv count tlv bytes → IsFit count tlv
tlv_fit count tlv bytes pos h = grind (arith, common_steps, index_fit)

pub all_fit : (count : ℕ) (tlvs : List AddrTlvFields) (bytes : List ℕ) → 0 < count → SpellsItems (SpellsAddrTlv count) tlvs bytes → All (IsFit count) tlvs
all_fit count [] bytes pos h = All-nil (IsFit count)
all_fit count (tlv ∷ tlvs) bytes pos h = All-cons (IsFit count) tlv tlvs (tlv_fit count tlv h.0 pos h.2) (all_fit count tlvs h.1 pos h.3)
