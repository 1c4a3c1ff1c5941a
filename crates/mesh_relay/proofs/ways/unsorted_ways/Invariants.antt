use Rattle.mesh_relay.proofs.Common.{◌≡◌, ◌++◌, drop, filter_map, way_from, IsSought}
use Rattle.mesh_relay.proofs.ways.unsorted_ways.Given as goal

abbrev pub invariant-loop-far : goal.invariant-loop-far
invariant-loop-far l = record {
  sought : IsSought l.willing l.seek;
  ways : l.ways.items ++ filter_map (λ f. way_from l.graph 0 l.willing f) (drop l.far-index l.graph.far) ≡ filter_map (λ f. way_from l.graph 0 l.willing f) l.graph.far;
}
