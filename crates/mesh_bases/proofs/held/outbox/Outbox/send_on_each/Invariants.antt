use Rattle.mesh_bases.proofs.Common.{◌≡◌, ◌++◌, on_each}
use Rattle.mesh_bases.proofs.held.outbox.Outbox.send_on_each.Given as goal

abbrev pub invariant-loop-iface : goal.invariant-loop-iface
invariant-loop-iface l = l.self ≡ l.initial.self ++ on_each l.iface l.bytes
