use Rattle.mesh_tlv.proofs.Common.{◌≡◌, ◌-◌, ◌++◌, ◌∷◌, [], map, arith, err_from_is_err_and, map_push, eq-eqb, items_at}
use native.Mathlib.Nat.{sub-zero}
use Rattle.mesh_tlv.proofs.Loop.{none_before, goes_on, fails, is_done, is_at_end}
use Rattle.mesh_tlv.proofs.reader.read_items.Goals as goal
use Rattle.mesh_tlv.proofs.reader.read_items.Goals.{else-loop-test, then-loop-test+then-place-end}

pub loop-init : goal.loop-init
loop-init g c = record {
  reads = rw (c.new-items.ensures, sub-zero (c.args.end - c.args.at)) (none_before (items_at (g.R.ItemReader.item_at c.args.reader c.args.frame.now) (c.args.end - c.args.at) c.args.at c.args.end));
  onward = omega arith;
  within = c.requires.at;
}

pub returns-in_err-item-clause-exact : goal.returns-in_err-item-clause-exact
returns-in_err-item-clause-exact g c =
    let p = err_from_is_err_and c.from_residual.result c.from_residual.ensures.1 in
    rw (p.1, p.2) (fails (g.R.ItemReader.item_at c.args.reader c.args.frame.now) (map g.R.ItemReader.fields c.loop.items) (c.args.end - c.args.at) c.loop.counter c.loop.place c.args.end _ c.loop.invariant.reads c.loop-test.true c.if-place-end.false c.in_err-item.field-0.0 c.in_err-item.ensures.exact)

pub loop-preserved : goal.loop-preserved
loop-preserved g c =
    let fields = g.R.ItemReader.fields in
    let item = c.in_ok-item.item in
    let e : map fields c.push.new.self ≡ map fields c.loop.items ++ fields item ∷ [] = rw c.in_ok-push.ensures.ok (map_push fields c.loop.items item) in
    record {
      reads = rw e (goes_on (g.R.ItemReader.item_at c.args.reader c.args.frame.now) (map fields c.loop.items) (c.args.end - c.args.at) c.loop.counter c.loop.place c.args.end _ c.loop.invariant.reads c.loop-test.true c.if-place-end.false (fields item) c.in_ok-item.after c.in_ok-item.ensures.exact);
      onward = omega (arith, c.loop.invariant.onward, c.in_ok-item.ensures.after);
      within = omega (arith, c.in_ok-item.ensures.after);
    }

pub returns-clause-exact : goal.returns-clause-exact
returns-clause-exact g c =
    let one = g.R.ItemReader.item_at c.args.reader c.args.frame.now in
    let front = map g.R.ItemReader.fields c.loop.items in
    elim c.loop-test.branch [
      | else-loop-test w ↦ is_done one front (c.args.end - c.args.at) c.loop.counter c.loop.place c.args.end _ c.loop.invariant.reads w.loop-test.false
      | then-loop-test+then-place-end w ↦ is_at_end one front (c.args.end - c.args.at) c.loop.counter c.loop.place c.args.end _ c.loop.invariant.reads w.loop-test.true (eq-eqb _ _ w.if-place-end.true)
    ]
