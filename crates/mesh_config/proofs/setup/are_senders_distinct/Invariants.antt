use Rattle.mesh_config.proofs.Common.{◌≡◌, drop, senders_checked}
use Rattle.mesh_config.proofs.setup.are_senders_distinct.Given as goal

abbrev pub invariant-loop-one : goal.invariant-loop-one
invariant-loop-one l = senders_checked l.costs ≡ senders_checked (drop l.one-index l.costs)
