use Rattle.mesh_replay.proofs.Common.{List, map, subst, RouterSettings, AreAtOpening}
use Rattle.mesh_replay.proofs.SceneLemmas.Beginning.{opening_sound, opening_read}
use Rattle.mesh_replay.proofs.checking.whole.replay_with.Goals as goal

pub check-requires-clause-sound : goal.check-requires-clause-sound
check-requires-clause-sound g c =
    opening_sound (record { trace = c.args.trace; scenario = c.args.scenario; ways = c.in_ok-ways.ways }) (map g.R.RouterOfTrace.state c.opening_net-scene.result.routers.items) c.opening_net-scene.result.due c.opening_net-scene.result.last_ticks
    c.opening_progress-progress.result c.opening_progress-progress.ensures
    (c.opening_net-scene.ensures c.args.scenario.now (subst (λ (rs : List RouterSettings). AreAtOpening rs (map g.R.RouterOfTrace.state c.in_ok-routers.routers.items)) c.as_slice-3.ensures c.in_ok-routers.ensures))
    (rw (← c.as_slice.ensures, ← c.as_slice-2.ensures) c.in_ok-ways.ensures)

pub check-requires-clause-read : goal.check-requires-clause-read
check-requires-clause-read g c =
    opening_read (record { trace = c.args.trace; scenario = c.args.scenario; ways = c.in_ok-ways.ways }) (map g.R.RouterOfTrace.state c.opening_net-scene.result.routers.items) c.opening_net-scene.result.due c.opening_net-scene.result.last_ticks
    c.opening_progress-progress.result c.opening_progress-progress.ensures
    (c.opening_net-scene.ensures c.args.scenario.now (subst (λ (rs : List RouterSettings). AreAtOpening rs (map g.R.RouterOfTrace.state c.in_ok-routers.routers.items)) c.as_slice-3.ensures c.in_ok-routers.ensures))
