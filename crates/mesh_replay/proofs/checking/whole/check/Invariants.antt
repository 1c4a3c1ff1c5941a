use Rattle.mesh_replay.proofs.Common.{map, HasRead, IsSoundScene, net_of}
use Rattle.mesh_replay.proofs.checking.whole.check.Given as goal

-- the lines of the events so far lead here
abbrev pub invariant-loop : goal.invariant-loop
invariant-loop g l = record {
  sound : IsSoundScene l.case (map g.R.RouterOfTrace.state l.scene.routers.items) l.scene.due l.scene.last_ticks l.progress;
  read : HasRead l.case l.progress.reader (net_of l.case (map g.R.RouterOfTrace.state l.scene.routers.items) l.scene.last_ticks l.progress);
}
