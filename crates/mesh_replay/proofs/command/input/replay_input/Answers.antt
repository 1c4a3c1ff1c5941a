use Rattle.mesh_replay.proofs.CommandLemmas.Once.{answers_or_refuses}
use Rattle.mesh_replay.proofs.command.input.replay_input.Goals as goal

pub returns-in-Ok-tell-clause-taken : goal.returns-in-Ok-tell-clause-taken
returns-in-Ok-tell-clause-taken g c = λ number key refused. answers_or_refuses c.args.input.now c.in-Ok.answer number key c.in-Ok.ensures.answered refused
