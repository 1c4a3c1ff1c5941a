use Rattle.mesh_nhdp.proofs.Common.{◌≡◌, ◌↔◌, length, Contains, slice_get, Some, ap, sym, subst, arith, Addr4, HelloRow, TellsSymmetric, SomeBelow, gathers_more, item_at}
use Rattle.mesh_hello.proofs.Sorted.{distinct_ascending}
use Rattle.mesh_nhdp.proofs.RowWalks.{symmetric_rows}
use Rattle.mesh_nhdp.proofs.two_hop_rows.count_symmetric.Goals as goal

pub loop-row-preserved : goal.loop-row-preserved
loop-row-preserved c =
    let at : slice_get c.args.hello.now.rows c.loop-row.row-index ≡ Some c.row-item.result =
    subst (λ rows. slice_get rows c.loop-row.row-index ≡ Some c.row-item.result) c.as_slice-row-items.ensures
    (item_at c.as_slice-row-items.result.now c.loop-row.row-index c.row-item.result c.loop-row-test.true c.row-item.is) in
    gathers_more c.args.hello.now.rows (λ (row : HelloRow) (a : Addr4). TellsSymmetric c.args.own.now c.args.listed.now row a) c.loop-row.row-index c.row-item.result _ _ at
    c.loop-row.invariant c.in_ok-add_symmetric.ensures

pub returns : goal.returns
returns c settings told own_is listed_is =
    let same = ap length c.as_slice-row-items.ensures in
    let all : c.loop-row.row-index ≡ length c.args.hello.now.rows = omega (arith, same) in (
      c.ascending-told.result,
      distinct_ascending c.ascending-told.result c.ascending-told.ensures.order,
      sym c.len-count.ensures,
      λ a.
          let kept = c.ascending-told.ensures.same a in
          let gathered : Contains c.loop-row.addrs.items a ↔ SomeBelow c.args.hello.now.rows (length c.args.hello.now.rows) (λ row. TellsSymmetric c.args.own.now c.args.listed.now row a) =
          subst (λ n. Contains c.loop-row.addrs.items a ↔ SomeBelow c.args.hello.now.rows n (λ row. TellsSymmetric c.args.own.now c.args.listed.now row a)) all (c.loop-row.invariant a) in
          let are = symmetric_rows settings told c.args.hello.now c.args.own.now c.args.listed.now own_is listed_is a in
          ((λ h. are.0 (gathered.0 (kept.0 h))), (λ h. kept.1 (gathered.1 (are.1 h)))),
    )
