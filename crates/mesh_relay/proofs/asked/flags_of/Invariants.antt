use Rattle.mesh_relay.proofs.Flags.{AreFlagged}
use Rattle.mesh_relay.proofs.asked.flags_of.Given as goal

abbrev pub invariant-loop-id : goal.invariant-loop-id
invariant-loop-id l = AreFlagged l.willing l.ids l.flags.items l.id-index
