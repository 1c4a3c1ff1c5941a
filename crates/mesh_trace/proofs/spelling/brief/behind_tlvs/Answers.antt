use Rattle.mesh_trace.proofs.SpellingLemmas.Spells.{given_place, given_no_refusal}
use Rattle.mesh_trace.proofs.spelling.brief.behind_tlvs.Goals as goal
use Rattle.mesh_trace.proofs.spelling.brief.behind_tlvs.Goals.{in-Ok, in-Err-Refused, in-Err-Memory}

pub returns : goal.returns
returns c = elim c.match-read_tlvs.branch [
  | in-Ok w ↦ rw w.result-is (λ tlvs bytes rest spells same. given_place _ _ _ _ (w.in-Ok.ensures.only tlvs bytes rest spells same))
  | in-Err-Refused w ↦ rw w.result-is (λ tlvs bytes rest spells same.
      absurd (given_no_refusal _ _ _ w.in-Err-Refused.field-0-is (w.in-Err-Refused.ensures.only tlvs bytes rest spells same)))
  | in-Err-Memory w ↦ rw w.result-is (tt {0})
]
