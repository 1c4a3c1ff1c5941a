use Rattle.mesh_paths.proofs.Common.{slice_range, IsMetOrWaits}
use Rattle.mesh_paths.proofs.Index.{from_run, leaves_node}
use Rattle.mesh_paths.proofs.Rows.{item_in, of_each}
use Rattle.mesh_paths.proofs.FrontierLaw.{offered_next, offered_on}
use Rattle.mesh_paths.proofs.frontier.offer_run.Goals as goal

pub loop-arc-preserved : goal.loop-arc-preserved
loop-arc-preserved c =
    let part = slice_range c.args.arcs.now c.args.run.start c.args.run.end in
    let in_part = item_in part c.loop-arc.arc-index c.arc-item.result c.arc-item.is c.loop-arc-test.true in
    let there = from_run c.args.arcs.now c.args.run c.arc-item.result c.requires.run in_part in
    let next = offered_next c.loop-arc.reached c.offer_arc.new.reached c.args.arcs.now c.args.from c.args.first c.arc-item.result c.loop-arc.frontier.keys c.offer_arc.new.frontier.keys
    (c.requires.costs c.arc-item.result there) there (leaves_node c.args.arcs.now c.args.run c.args.first.node c.arc-item.result c.requires.run c.requires.number in_part) c.loop-arc.invariant.taking c.in_ok-offer_arc.ensures in
    let (carried, done, work) = offered_on c.args.reached.now c.loop-arc.reached c.offer_arc.new.reached c.args.frontier.now.keys c.loop-arc.frontier.keys c.offer_arc.new.frontier.keys c.args.arcs.now c.args.from c.args.first
    part c.loop-arc.arc-index c.arc-item.result c.arc-item.is c.loop-arc-test.true c.loop-arc.invariant.carried c.loop-arc.invariant.done c.loop-arc.invariant.work next in
    record { taking = next.taking; carried = carried; done = done; work = work }

pub returns : goal.returns
returns c = record {
  taking = c.loop-arc.invariant.taking;
  carried = c.loop-arc.invariant.carried;
  done = of_each (IsMetOrWaits c.loop-arc.reached c.loop-arc.frontier.keys) (slice_range c.args.arcs.now c.args.run.start c.args.run.end) c.loop-arc.arc-index c.loop-arc-test.false c.loop-arc.invariant.done;
  work = c.loop-arc.invariant.work;
}
