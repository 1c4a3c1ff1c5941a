use Rattle.mesh_machine.proofs.Sendables.{step_sends_packets}
use Rattle.mesh_machine.proofs.laws.steps_send_packets.Goals as goal

pub returns : goal.returns
returns c = step_sends_packets
