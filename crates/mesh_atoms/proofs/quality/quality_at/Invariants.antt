use Rattle.mesh_atoms.proofs.Common.{◌≡◌, ◌≤◌, drop, min, map, filter, fold, list_any, addr_eq}
use Rattle.mesh_atoms.specs.Quality.{quality_of, quality_at}
use Rattle.mesh_atoms.proofs.quality.quality_at.Given as goal

abbrev pub invariant-loop-sender : goal.invariant-loop-sender
invariant-loop-sender l =
    (l.least ≤ 100)
    × (quality_at l.rule l.addrs l.now
    ≡ fold min l.least (map (λ s. quality_of s.steps l.now) (filter (λ s. list_any (addr_eq s.sender) l.addrs) (drop l.sender-index l.rule.senders))))
