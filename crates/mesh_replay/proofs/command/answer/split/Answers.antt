use Rattle.mesh_replay.proofs.Common.{codes, IsRefusedInput, No_trace}
use Rattle.mesh_replay.proofs.CommandLemmas.Refusing.{refused_so}
use Rattle.mesh_replay.proofs.command.answer.split.Goals as goal

pub returns-in-Ok-None-clause-refused : goal.returns-in-Ok-None-clause-refused
returns-in-Ok-None-clause-refused c =
    refused_so (IsRefusedInput c.args.input.now) c.refused.result 41 (codes "trace") c.refused.ensures.answer
    (No_trace (rw c.in-Ok-None.field-0-is at c.in-Ok-None.ensures))
