use Rattle.mesh_trace.proofs.Common.{ℕ, Contains, Block, fields_of_block, AddrTlvFields, SaysOnly}
use Rattle.mesh_trace.proofs.SpellingLemmas.Mapped.{HoldsBefore}
use Rattle.mesh_trace.proofs.spelling.parts.are_blocks_read.Given as goal

abbrev pub invariant-loop-i : goal.invariant-loop-i
invariant-loop-i g l =
    HoldsBefore (λ (j : ℕ) (b : Block). (tlv : AddrTlvFields) → Contains (fields_of_block b).tlvs tlv → SaysOnly (g.L.Looks.reads l.looks) (fields_of_block b).addrs tlv) l.blocks l.i
