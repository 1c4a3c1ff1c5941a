use Rattle.mesh_hello.proofs.Common.{◌≡◌, ◌≢◌, ℕ, ◌<◌, get_or}
use Rattle.mesh_atoms.specs.declared.settings.SenderMetric.{SenderMetric}
use Rattle.mesh_hello.proofs.told.mine.metric_from.Given as goal

abbrev pub invariant-loop-entry : goal.invariant-loop-entry
invariant-loop-entry l = (k : ℕ) (entry : SenderMetric) → k < l.entry-index → get_or l.face.senders k entry ≡ entry → entry.sender ≢ l.sender
