use Rattle.mesh_topo.proofs.Common.{given}
use Rattle.mesh_topo.proofs.TcSetsLemmas.Laws.{becomes, given_numbered}
use Rattle.mesh_topo.proofs.tc_sets.keyed_set.KeyedSet.take_rows.Goals as goal

pub returns-clause-becomes : goal.returns-clause-becomes
returns-clause-becomes g c =
    let tc = c.args.tc.now in
    record {
      distinct = c.drop_outdated.ensures.distinct;
      at = λ key. becomes (given g.V.KeyedTuple.kind) tc c.args.until g.V.KeyedTuple.kind.origin g.V.KeyedTuple.kind.number key _ _ _ (λ value gives. given_numbered g.V.KeyedTuple.kind tc.originator tc.ansn gives.0 key value gives.2)
          (c.in_ok-changed.ensures.put key) (rw (← c.self.view_is) (c.in_ok-changed-2.ensures.dropped key));
    }
