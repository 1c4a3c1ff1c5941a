use Rattle.mesh_relay.proofs.Common.{IfOk-weaker}
use Rattle.mesh_relay.proofs.Taken.{covers_all, all_taken}
use Rattle.mesh_relay.proofs.choice.take_all.Goals as goal

pub returns-clause-covers : goal.returns-clause-covers
returns-clause-covers c =
    IfOk-weaker c.all_flags.result _ _ (λ taken e. covers_all c.args.graph.now c.args.willing.now c.args.ways.now taken.items c.requires.willing c.requires.ways
    (all_taken c.args.willing.now taken.items e)) c.all_flags.ensures
