use Rattle.mesh_wire.proofs.Spellings.{wordy_writes, too_wordy_never, unknown_tlv_never, unknown_part_never, relay_never, metric_never, status_never, sender_never}
use Rattle.mesh_wire.proofs.laws.worked_spellings.Goals as goal

pub returns-clause-wordy : goal.returns-clause-wordy
returns-clause-wordy c = wordy_writes

pub returns-clause-too_wordy : goal.returns-clause-too_wordy
returns-clause-too_wordy c = too_wordy_never

pub returns-clause-unknown_tlv : goal.returns-clause-unknown_tlv
returns-clause-unknown_tlv c = unknown_tlv_never

pub returns-clause-unknown_part : goal.returns-clause-unknown_part
returns-clause-unknown_part c = unknown_part_never

pub returns-clause-unknown_relay : goal.returns-clause-unknown_relay
returns-clause-unknown_relay c = relay_never

pub returns-clause-unknown_metric : goal.returns-clause-unknown_metric
returns-clause-unknown_metric c = metric_never

pub returns-clause-unknown_status : goal.returns-clause-unknown_status
returns-clause-unknown_status c = status_never

pub returns-clause-status_of_sender : goal.returns-clause-status_of_sender
returns-clause-status_of_sender c = sender_never
