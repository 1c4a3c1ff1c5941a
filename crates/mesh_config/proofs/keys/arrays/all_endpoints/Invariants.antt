use Rattle.mesh_config.proofs.Common.{◌≡◌, drop, map, length, view, all_of, text, endpoint_of, port_of}
use Rattle.mesh_config.proofs.KeysLemmas.Elements.{with_front}
use Rattle.mesh_config.proofs.keys.arrays.all_endpoints.Given as goal

abbrev pub invariant-loop-value : goal.invariant-loop-value
invariant-loop-value l = record {
  read : all_of (text endpoint_of) (map view l.values) ≡ with_front (map port_of l.endpoints) (all_of (text endpoint_of) (map view (drop l.value-index l.values)));
  size : length l.endpoints ≡ l.value-index;
}
