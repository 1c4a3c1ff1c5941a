use Rattle.mesh_flood.proofs.Common.{arith, common_steps, ◌∙◌, distinct_none}
use Rattle.mesh_flood.proofs.Soundness.{none_sound}
use Rattle.mesh_flood.proofs.flood.Flood.new.Goals as goal

pub invariant_of-result : goal.invariant_of-result
invariant_of-result g c = grind (arith, common_steps, distinct_none, c.in_ok-empty_sets.ensures.empty, c.in_ok-new.ensures, c.in_ok-new-2.ensures)

pub returns-clause-sound : goal.returns-clause-sound
returns-clause-sound g c = λ now. none_sound c.args.settings.now now _ (c.in_ok-empty_sets.ensures.count ∙ c.len.ensures) c.in_ok-empty_sets.ensures.empty c.in_ok-new.ensures c.in_ok-new-2.ensures
