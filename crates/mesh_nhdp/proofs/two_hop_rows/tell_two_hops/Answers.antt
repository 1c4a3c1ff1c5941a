use Rattle.mesh_nhdp.proofs.Common.{◌≡◌, length, slice_get, Some, ap, ◌∙◌, subst, arith, find, two_hop_eq, item_at}
use Rattle.mesh_nhdp.proofs.RowWalks.{RowsTell, one_more, others_more, rows_all}
use Rattle.mesh_nhdp.proofs.RowsRepeat.{RowsRepeat, both_true, row_same, repeat_more, repeat_all}
use Rattle.mesh_nhdp.proofs.two_hop_rows.tell_two_hops.Goals as goal

pub loop-row-preserved : goal.loop-row-preserved
loop-row-preserved g c =
    let at : slice_get c.args.rows.now.hello.now.rows c.loop-row.row-index ≡ Some c.row-item.result =
    subst (λ rows. slice_get rows c.loop-row.row-index ≡ Some c.row-item.result) c.as_slice-row-items.ensures
    (item_at c.as_slice-row-items.result.now c.loop-row.row-index c.row-item.result c.loop-row-test.true c.row-item.is) in
    record {
      one = λ a. one_more c.args.rows.now.own.now c.args.rows.now.listed.now c.args.rows.now.hello.now.rows c.loop-row.row-index c.args.rows.now.until c.args.rows.now.link c.row-item.result at c.loop-row.two_hops c.tell_if_looked_at.new.two_hops
          c.in_ok-repeats.ensures.tells a _ (c.loop-row.invariant.one a);
      others = λ key other. others_more c.args.rows.now.own.now c.args.rows.now.listed.now c.args.rows.now.hello.now.rows c.loop-row.row-index c.args.rows.now.until c.args.rows.now.link c.row-item.result at c.loop-row.two_hops c.tell_if_looked_at.new.two_hops
          c.in_ok-repeats.ensures.tells key other ∙ c.loop-row.invariant.others key other;
      same = λ both q.
          let (before, here) = both_true c.loop-row.repeated c.in_ok-repeats.repeats both in
          row_same c.args.rows.now.own.now c.args.rows.now.listed.now c.args.rows.now.link c.args.rows.now.until c.row-item.result c.loop-row.two_hops c.tell_if_looked_at.new.two_hops c.in_ok-repeats.ensures.tells (c.in_ok-repeats.ensures.repeats here) q
          ∙ c.loop-row.invariant.same before q;
      repeats = λ both.
          let (before, here) = both_true c.loop-row.repeated c.in_ok-repeats.repeats both in
          repeat_more c.args.rows.now.own.now c.args.rows.now.listed.now c.args.rows.now.link c.args.rows.now.hello.now.rows c.loop-row.row-index c.row-item.result c.args.two_hops.now c.loop-row.two_hops at (c.loop-row.invariant.same before)
          (c.in_ok-repeats.ensures.repeats here) (c.loop-row.invariant.repeats before);
    }

pub returns-clause-tells : goal.returns-clause-tells
returns-clause-tells g c settings told own_is listed_is =
    let same = ap length c.as_slice-row-items.ensures in
    let all : c.loop-row.row-index ≡ length c.args.rows.now.hello.now.rows = omega (arith, same) in
    record {
      one = λ a. rows_all settings told c.args.rows.now.hello.now c.args.rows.now.own.now c.args.rows.now.listed.now own_is listed_is c.args.rows.now.until a _ _
          (subst (λ n. RowsTell c.args.rows.now.own.now c.args.rows.now.listed.now c.args.rows.now.hello.now.rows n c.args.rows.now.until a (find two_hop_eq c.args.two_hops.now (record { link = c.args.rows.now.link; addr = a }))
          (find two_hop_eq c.loop-row.two_hops (record { link = c.args.rows.now.link; addr = a }))) all (c.loop-row.invariant.one a));
      others = λ key other. c.loop-row.invariant.others key other;
    }

pub returns-clause-repeats : goal.returns-clause-repeats
returns-clause-repeats g c = λ repeated.
    let same = ap length c.as_slice-row-items.ensures in
    let all : c.loop-row.row-index ≡ length c.args.rows.now.hello.now.rows = omega (arith, same) in
    repeat_all c.args.rows.now.own.now c.args.rows.now.listed.now c.args.rows.now.link c.args.rows.now.hello.now c.args.two_hops.now
    (subst (λ n. RowsRepeat c.args.rows.now.own.now c.args.rows.now.listed.now c.args.rows.now.link c.args.rows.now.hello.now.rows n c.args.two_hops.now) all (c.loop-row.invariant.repeats repeated))
