use Rattle.mesh_trace.proofs.Common.{ℕ, false, refl, Tlv, fields}
use Rattle.mesh_trace.proofs.SpellingLemmas.Mapped.{before_all, all_mapped}
use Rattle.mesh_trace.proofs.spelling.parts.are_tlvs_read.Goals as goal

pub returns : goal.returns
returns g c = (
  λ _. all_mapped fields c.args.tlvs.now (g.L.Looks.reads_tlv c.args.looks.now)
      (before_all (λ (j : ℕ) (tlv : Tlv). g.L.Looks.reads_tlv c.args.looks.now (fields tlv)) c.args.tlvs.now c.loop-i.i c.loop-i-test.false c.loop-i.invariant),
  λ _. refl,
)
