use Rattle.mesh_replay.proofs.CommandLemmas.Rules.{rule_alone}
use Rattle.mesh_replay.proofs.command.parts.behind_rule.Goals as goal

pub returns-else-text-gt3 : goal.returns-else-text-gt3
returns-else-text-gt3 c = rule_alone c.args.text.now c.requires c.if-text-gt3.false
