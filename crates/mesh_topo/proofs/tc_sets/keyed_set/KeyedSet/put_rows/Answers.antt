use Rattle.mesh_topo.proofs.Common.{◌≡◌, ℕ, length, ap, subst, arith, find, PutsRows, or_parts as neither, given}
use Rattle.mesh_topo.proofs.TcSetsLemmas.Laws.{puts_more, count_more, at_place, same_after}
use Rattle.mesh_topo.proofs.tc_sets.keyed_set.KeyedSet.put_rows.Goals as goal

pub loop-row-preserved : goal.loop-row-preserved
loop-row-preserved g c =
    let rows = c.args.tc.now.rows in
    let given = given g.V.KeyedTuple.kind c.args.tc.now.originator c.args.tc.now.ansn in
    let here = at_place c.as_slice-row-items.result.now rows c.loop-row.row-index c.row-item.result c.as_slice-row-items.ensures c.loop-row-test.true c.row-item.is in
    record {
      same = λ e. let (was, stays) = neither c.loop-row.changed c.in_ok-changed.field-0 e in
          same_after g.K.PartialEq.eq g.V.KeyedTuple.kind.says _ _ _ (c.loop-row.invariant.same was) (c.in_ok-changed.ensures.same.0 stays);
      put = puts_more g.met.K.Eq.laws g.met.K.Key.exact given c.args.until rows c.loop-row.row-index c.row-item.result c.given_by.result c.args.self.now c.loop-row.self c.put_given.new.self
          here c.given_by.ensures c.loop-row.invariant.put c.in_ok-changed.ensures.put;
      count = count_more given rows c.loop-row.row-index c.row-item.result c.given_by.result _ _ _ here c.given_by.ensures c.loop-row.invariant.count c.in_ok-changed.ensures.count;
    }

pub returns-clause-put : goal.returns-clause-put
returns-clause-put g c =
    let end : c.loop-row.row-index ≡ length c.args.tc.now.rows = omega (arith, ap length c.as_slice-row-items.ensures) in
    λ q. subst (λ (n : ℕ). PutsRows (given g.V.KeyedTuple.kind c.args.tc.now.originator c.args.tc.now.ansn) c.args.until c.args.tc.now.rows n q
    (find g.K.PartialEq.eq c.args.self.now q) (find g.K.PartialEq.eq c.loop-row.self q)) end (c.loop-row.invariant.put q)
