use Rattle.mesh_paths.proofs.Common.{◌≤◌, AllWithin, Arc4, IsMetOrWaits, IsTaking, work_in}
use Rattle.mesh_paths.proofs.frontier.offer_run.Given as goal

abbrev pub invariant-loop-arc : goal.invariant-loop-arc
invariant-loop-arc l = record {
  taking : IsTaking l.reached l.fn.arcs l.fn.from l.first l.frontier.keys;
  carried : (a : Arc4) → IsMetOrWaits l.fn.reached l.fn.frontier.keys a → IsMetOrWaits l.reached l.frontier.keys a;
  done : AllWithin (IsMetOrWaits l.reached l.frontier.keys) l.part 0 l.arc-index;
  work : work_in l.reached l.fn.arcs l.frontier.keys ≤ work_in l.fn.reached l.fn.arcs l.fn.frontier.keys;
}
