use Rattle.mesh_replay.proofs.Common.{arith, common_steps, codes, IsRefusedInput, Long_scenario}
use Rattle.mesh_replay.proofs.CommandLemmas.Refusing.{refused_so, settings_refused}
use Rattle.mesh_replay.proofs.command.answer.answer_to.Goals as goal

pub returns-then-parts-gt-LONGEST_SETTINGS-clause-refused : goal.returns-then-parts-gt-LONGEST_SETTINGS-clause-refused
returns-then-parts-gt-LONGEST_SETTINGS-clause-refused g c =
    let parts = c.in-Ok.parts in
    refused_so (IsRefusedInput c.args.input.now) c.refused.result 47 (codes "scenario") c.refused.ensures.answer
    (Long_scenario parts.scenario.now parts.trace.now c.in-Ok.ensures.split c.if-parts-gt-LONGEST_SETTINGS.true)

pub returns-clause-refused : goal.returns-clause-refused
returns-clause-refused g c = grind (arith, common_steps, settings_refused, c.in-Ok.ensures.split, c.answer_over.ensures.refused)
