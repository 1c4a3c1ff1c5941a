use Rattle.mesh_topo.proofs.Common.{◌≤◌, AllByRecursion, IsStrictlySortedBy, is_outdated}
use Rattle.mesh_topo.proofs.TcSetsLemmas.Originators.{Walks}
use Rattle.mesh_topo.proofs.tc_sets.outdated.outdated.Given as goal

abbrev pub invariant-loop-key : goal.invariant-loop-key
invariant-loop-key g l = record {
  walks : Walks g.met.K.Eq.laws g.met.K.Key.exact (is_outdated g.K.PartialEq.eq l.originator l.ansn g.V.KeyedTuple.kind.origin g.V.KeyedTuple.kind.number (g.T.Table.content l.table)) l.found l.key-iterator;
  sorted : IsStrictlySortedBy g.K.Ord.cmp l.key-iterator;
  from : AllByRecursion (λ k. l.originator.0 ≤ (g.V.KeyedTuple.kind.origin k).0) l.key-iterator;
}
