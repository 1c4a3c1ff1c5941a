-- The values of the TLVs of a type.
use Rattle.std.specs.Prelude.{ℕ, List, map, filter, ◌==◌, ◌&&◌}
use Rattle.mesh_tlv.specs.Fields.{TlvFields}
use Rattle.mesh_wire.specs.Parts.{octets_of}

-- the values of those of the type without extension
abbrev pub values_in : ℕ → List TlvFields → List (List ℕ)
values_in kind tlvs = map (λ (p : TlvFields). octets_of p.value) (filter (λ (p : TlvFields). p.kind == kind && p.ext == 0) tlvs)
