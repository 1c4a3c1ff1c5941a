use Rattle.mesh_config.proofs.Common.{◌≡◌, take, map}
use Rattle.mesh_config.proofs.run_tables.neighbours.senders_of.Given as goal

abbrev pub invariant-loop-neighbour : goal.invariant-loop-neighbour
invariant-loop-neighbour l = record {
  metrics : l.metrics ≡ map (λ n. n.cost) (take l.neighbour-index l.neighbours);
  qualities : l.qualities ≡ map (λ n. n.quality) (take l.neighbour-index l.neighbours);
}
