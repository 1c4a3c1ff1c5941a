use Rattle.mesh_replay.proofs.CommandLemmas.Once.{splits_once, splits_at_rule, answers_or_refuses}
use Rattle.mesh_replay.proofs.command.laws.inputs_split_once.Goals as goal

pub returns : goal.returns
returns c = record { once = splits_once; rule = splits_at_rule; apart = answers_or_refuses }
