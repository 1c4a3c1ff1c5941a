use Rattle.mesh_trace.proofs.Common.{ℕ, AddrTlv, addr_fields, SaysOnly}
use Rattle.mesh_trace.proofs.SpellingLemmas.Mapped.{HoldsBefore}
use Rattle.mesh_trace.proofs.spelling.parts.is_block_read.Given as goal

abbrev pub invariant-loop-i : goal.invariant-loop-i
invariant-loop-i g l = HoldsBefore (λ (j : ℕ) (tlv : AddrTlv). SaysOnly (g.L.Looks.reads l.looks) l.addrs (addr_fields tlv)) l.tlvs l.i
