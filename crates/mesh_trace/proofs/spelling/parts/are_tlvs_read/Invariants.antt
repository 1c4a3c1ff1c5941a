use Rattle.mesh_trace.proofs.Common.{ℕ, Tlv, fields}
use Rattle.mesh_trace.proofs.SpellingLemmas.Mapped.{HoldsBefore}
use Rattle.mesh_trace.proofs.spelling.parts.are_tlvs_read.Given as goal

abbrev pub invariant-loop-i : goal.invariant-loop-i
invariant-loop-i g l = HoldsBefore (λ (j : ℕ) (tlv : Tlv). g.L.Looks.reads_tlv l.looks (fields tlv)) l.tlvs l.i
