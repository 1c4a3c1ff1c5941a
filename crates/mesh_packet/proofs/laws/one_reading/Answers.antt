use Rattle.mesh_packet.proofs.OneReading.{one_packet, one_fault, spells_or_faults, not_both}
use Rattle.mesh_packet.proofs.OneForm.{form_once}
use Rattle.mesh_packet.proofs.laws.one_reading.Goals as goal

pub returns-clause-packet : goal.returns-clause-packet
returns-clause-packet c = λ frame p q here there h k. one_packet frame p q here there h k

pub returns-clause-fault : goal.returns-clause-fault
returns-clause-fault c = λ frame place reason other why h k. one_fault frame place reason other why h k

pub returns-clause-either : goal.returns-clause-either
returns-clause-either c = λ frame. spells_or_faults frame

pub returns-clause-apart : goal.returns-clause-apart
returns-clause-apart c = λ frame packet spans place reason h k. not_both frame packet spans place reason h k

pub returns-clause-least : goal.returns-clause-least
returns-clause-least c = λ packet a b h k. form_once packet a b h k
