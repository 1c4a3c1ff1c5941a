use Rattle.mesh_config.proofs.Common.{◌≡◌, drop, map, length, true, list_all, view, is_addressed, all_of, text, address_of}
use Rattle.mesh_config.proofs.KeysLemmas.Elements.{with_front}
use Rattle.mesh_config.proofs.keys.arrays.all_addresses.Given as goal

abbrev pub invariant-loop-value : goal.invariant-loop-value
invariant-loop-value l = record {
  read : all_of (text address_of) (map view l.values) ≡ with_front l.addrs (all_of (text address_of) (map view (drop l.value-index l.values)));
  size : length l.addrs ≡ l.value-index;
  addressed : list_all is_addressed l.addrs ≡ true;
}
