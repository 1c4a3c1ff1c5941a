use Rattle.mesh_config.proofs.Common.{◌≡◌, [], drop, take, map, length, joins, stated_identifiers, arc_places, ends_of, arc_fields, stated_arc_fields}
use Rattle.mesh_config.proofs.ChecksLemmas.JoinLaws.{after_front}
use Rattle.mesh_config.proofs.checks.joins.all_joined.Given as goal

abbrev pub invariant-loop-arc : goal.invariant-loop-arc
invariant-loop-arc l = record {
  read : joins (map stated_identifiers l.routers) [] (map arc_places l.arcs) ≡ after_front (map ends_of l.all) (joins (map stated_identifiers l.routers) (map ends_of l.all) (map arc_places (drop l.arc-index l.arcs)));
  says : map arc_fields l.all ≡ map stated_arc_fields (take l.arc-index l.arcs);
  size : length l.all ≡ l.arc-index;
}
