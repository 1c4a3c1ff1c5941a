use Rattle.mesh_relay.proofs.Common.{IfOk-weaker}
use Rattle.mesh_relay.proofs.Flags.{serves_same}
use Rattle.mesh_relay.proofs.asked.is_choice_of.Goals as goal

pub returns : goal.returns
returns c =
    IfOk-weaker c.is_choice.result _ _ (λ b both. serves_same c.args.graph.now c.args.willing.now c.args.ids.now c.args.taken.now b c.requires.flags both) c.is_choice.ensures
