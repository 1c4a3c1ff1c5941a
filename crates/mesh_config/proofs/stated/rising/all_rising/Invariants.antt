use Rattle.mesh_config.proofs.Common.{◌≡◌, length, drop, take, map, view, first, rising_visits, Each}
use Rattle.mesh_config.proofs.stated.rising.all_rising.Given as goal

abbrev pub invariant-loop-value : goal.invariant-loop-value
invariant-loop-value g l = record {
  said : Each g.T.FromRising.says (map view (take l.value-index l.values)) l.all;
  faults : first (rising_visits g.T.FromRising.visits g.T.FromRising.number l.key 0 (map view l.values)) ≡ first (rising_visits g.T.FromRising.visits g.T.FromRising.number l.key l.least (map view (drop l.value-index l.values)));
  size : length l.all ≡ l.value-index;
}
