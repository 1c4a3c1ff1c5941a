use Rattle.mesh_relay.proofs.Cheapest.{places_within}
use Rattle.mesh_relay.proofs.Pruned.{step, kept_by_willingness, kept_untaken}
use Rattle.mesh_relay.proofs.prune.prune_at.Goals as goal
use Rattle.mesh_relay.proofs.prune.prune_at.Goals.{else-taken-place-via-then-taken-place+else-willing-place-lt15, else-taken-place-via-else-taken-place}

pub leave_out-requires-clause-ways : goal.leave_out-requires-clause-ways
leave_out-requires-clause-ways c = places_within c.args.graph.now c.args.willing.now c.args.ways.now _ c.requires.ways c.requires.later.length

pub returns-then-willing-place-lt15 : goal.returns-then-willing-place-lt15
returns-then-willing-place-lt15 c =
    step c.args.graph.now c.args.willing.now c.args.ways.now c.args.taken.now c.leave_out.new.taken c.args.place _
    c.requires.distinct c.requires.willing c.requires.ways c.requires.later c.requires.place c.if-willing-place-lt15.true c.leave_out.ensures

pub returns-else-taken-place : goal.returns-else-taken-place
returns-else-taken-place c = elim c.else-taken-place.branch [
  | else-taken-place-via-then-taken-place+else-willing-place-lt15 w ↦
      kept_by_willingness c.args.graph.now c.args.willing.now c.args.taken.now c.args.place _ c.requires.later w.if-willing-place-lt15.false
  | else-taken-place-via-else-taken-place w ↦ kept_untaken c.args.graph.now c.args.willing.now c.args.taken.now c.args.place c.requires.later w.if-taken-place.false
]
