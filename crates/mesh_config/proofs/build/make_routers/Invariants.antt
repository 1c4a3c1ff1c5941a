use Rattle.mesh_config.proofs.Common.{◌≡◌, take, map, length, stated_lists, settings_parts, stated_parts, HaveAllSenders, with_steps, stated_steps, HaveAllQualities}
use Rattle.mesh_config.proofs.build.make_routers.Given as goal

abbrev pub invariant-loop-at : goal.invariant-loop-at
invariant-loop-at l = record {
  fields : map settings_parts l.all ≡ map (stated_parts l.times) (take l.at l.routers);
  qualities : HaveAllQualities (stated_lists l.routers) (with_steps l.arcs (stated_steps l.stated_arcs)) 0 l.all;
  senders : HaveAllSenders (stated_lists l.routers) l.arcs 0 l.all;
  size : length l.all ≡ l.at;
}
