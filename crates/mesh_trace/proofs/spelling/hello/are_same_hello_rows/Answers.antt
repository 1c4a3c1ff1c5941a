use Rattle.mesh_trace.proofs.Common.{refl, slice_eq-Decides}
use Rattle.mesh_trace.proofs.SpellingLemmas.SameRows.{hello_rows}
use Rattle.mesh_trace.proofs.spelling.hello.are_same_hello_rows.Goals as goal

pub returns : goal.returns
returns c = slice_eq-Decides (λ a b. hello_rows _ _ _ refl refl refl refl refl refl refl refl refl refl refl refl refl refl refl refl refl a b) c.args.rows.now c.args.others.now c.eq.result c.eq.ensures
