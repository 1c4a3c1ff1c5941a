use Rattle.mesh_trace.proofs.Common.{false≢true, [], ◌∷◌, alone}
use Rattle.mesh_trace.proofs.SpellingLemmas.Spells.{given_no_refusal}
use Rattle.mesh_trace.proofs.spelling.hello.spells_hello.Goals as goal

pub returns-in-Err-Refused : goal.returns-in-Err-Refused
returns-in-Err-Refused c = (
  λ yes. absurd (false≢true yes),
  λ w. absurd (given_no_refusal _ _ _ c.in-Err-Refused.field-0-is (c.in-Err-Refused.ensures.only (alone w.message) (w.packet.span ∷ []) w.packet.spelled)),
)
