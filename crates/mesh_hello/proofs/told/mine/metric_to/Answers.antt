use Rattle.mesh_hello.proofs.Common.{◌≡◌, length, slice_get, Some, ap, subst, inl, inr, arith, HelloRow, Metric, IsLeastMetric, HasAddressOn, least_same, least_joined, IsMyRow}
use Rattle.mesh_hello.proofs.Collect.{SomeBelow, below_later, below_here, below_cases, below_contains, item_at}
use Rattle.mesh_hello.proofs.ToldLemmas.Mines.{row_of}
use Rattle.mesh_hello.proofs.told.mine.metric_to.Goals as goal

pub loop-row-preserved : goal.loop-row-preserved
loop-row-preserved c =
    let rows = c.args.hello.now.rows in
    let at : slice_get c.args.hello.now.rows c.loop-row.row-index ≡ Some c.row-item.result =
    subst (λ items. slice_get items c.loop-row.row-index ≡ Some c.row-item.result) c.as_slice-row-items.ensures
    (item_at c.as_slice-row-items.result.now c.loop-row.row-index c.row-item.result c.loop-row-test.true c.row-item.is) in
    let Q : Metric → HelloRow → Type 0 = λ m row. IsMyRow c.args.own.now row × (row.metrics.link_in ≡ Some m) in
    least_same c.least_with-least.result
    (λ m h. elim h [ inl before ↦ below_later rows (Q m) c.loop-row.row-index before | inr here ↦ below_here rows (Q m) c.loop-row.row-index c.row-item.result at here ])
    (λ m h. below_cases rows (Q m) c.loop-row.row-index c.row-item.result at h)
    (least_joined (λ m. SomeBelow rows c.loop-row.row-index (Q m)) (λ m. Q m c.row-item.result) c.loop-row.least c.least_with-least.result c.loop-row.invariant c.least_with-least.ensures)

pub returns : goal.returns
returns c settings i own_is =
    let rows = c.args.hello.now.rows in
    let same = ap length c.as_slice-row-items.ensures in
    let all : c.loop-row.row-index ≡ length c.args.hello.now.rows = omega (arith, same) in
    let Q : Metric → HelloRow → Type 0 = λ m row. IsMyRow c.args.own.now row × (row.metrics.link_in ≡ Some m) in
    let least = subst (λ n. IsLeastMetric (λ m. SomeBelow c.args.hello.now.rows n (λ row. IsMyRow c.args.own.now row × (row.metrics.link_in ≡ Some m))) c.loop-row.least) all c.loop-row.invariant in
    least_same c.loop-row.least
    (λ m h. let (row, contains, q) = (below_contains rows (Q m)).0 h in (row_of c.args.hello.now c.args.own.now (λ r. r.metrics.link_in ≡ Some m) (HasAddressOn settings i) own_is).0 (row, contains, q.0, q.1))
    (λ m h. let (row, contains, of, q) = (row_of c.args.hello.now c.args.own.now (λ r. r.metrics.link_in ≡ Some m) (HasAddressOn settings i) own_is).1 h in (below_contains rows (Q m)).1 (row, contains, (of, q)))
    least
