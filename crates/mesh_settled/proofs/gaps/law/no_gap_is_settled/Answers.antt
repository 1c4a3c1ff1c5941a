use Rattle.mesh_settled.proofs.GapsLemmas.GapLaw.{law}
use Rattle.mesh_settled.proofs.gaps.law.no_gap_is_settled.Goals as goal

pub returns : goal.returns
returns c = law
