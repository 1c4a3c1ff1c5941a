use Rattle.mesh_core.proofs.Common.{refl, router_state}
use Rattle.mesh_core.proofs.Clauses.{tick_clauses}
use Rattle.mesh_core.proofs.EventLemmas.Wholes.{current_of, sound_but}
use Rattle.mesh_core.proofs.Spent.{where_whole}
use Rattle.mesh_core.proofs.router.Core.tick.Goals as goal

pub tick-came-requires-clause-now : goal.tick-came-requires-clause-now
tick-came-requires-clause-now g c = c.requires.now

pub tick-came-requires-clause-ready : goal.tick-came-requires-clause-ready
tick-came-requires-clause-ready g c = record {
  sound = sound_but (router_state c.self.inside.router.holding c.self.inside.router.derived) (c.self.invariant c.if-self.false);
  current = current_of c.self.inside.router.outdated (router_state c.self.inside.router.holding c.self.inside.router.derived) (c.self.invariant c.if-self.false);
}

pub returns-clause-step : goal.returns-clause-step
returns-clause-step g c = (tick_clauses _ _ _ _ _ _ c.tick-came.result refl refl c.self.view_is (c.self.invariant c.if-self.false) c.len-before.ensures c.tick-came.ensures.appended c.take_back.ensures c.tick-came.ensures.ticks).step

pub returns-clause-appended : goal.returns-clause-appended
returns-clause-appended g c = (tick_clauses _ _ _ _ _ _ c.tick-came.result refl refl c.self.view_is (c.self.invariant c.if-self.false) c.len-before.ensures c.tick-came.ensures.appended c.take_back.ensures c.tick-came.ensures.ticks).appended

pub returns-clause-sendable : goal.returns-clause-sendable
returns-clause-sendable g c = (tick_clauses _ _ _ _ _ _ c.tick-came.result refl refl c.self.view_is (c.self.invariant c.if-self.false) c.len-before.ensures c.tick-came.ensures.appended c.take_back.ensures c.tick-came.ensures.ticks).sendable

pub returns-clause-settings : goal.returns-clause-settings
returns-clause-settings g c = (tick_clauses _ _ _ _ _ _ c.tick-came.result refl refl c.self.view_is (c.self.invariant c.if-self.false) c.len-before.ensures c.tick-came.ensures.appended c.take_back.ensures c.tick-came.ensures.ticks).settings

pub returns-clause-last : goal.returns-clause-last
returns-clause-last g c = (tick_clauses _ _ _ _ _ _ c.tick-came.result refl refl c.self.view_is (c.self.invariant c.if-self.false) c.len-before.ensures c.tick-came.ensures.appended c.take_back.ensures c.tick-came.ensures.ticks).last

pub returns-clause-due : goal.returns-clause-due
returns-clause-due g c = (tick_clauses _ _ _ _ _ _ c.tick-came.result refl refl c.self.view_is (c.self.invariant c.if-self.false) c.len-before.ensures c.tick-came.ensures.appended c.take_back.ensures c.tick-came.ensures.ticks).due

pub returns-clause-sound : goal.returns-clause-sound
returns-clause-sound g c = (tick_clauses _ _ _ _ _ _ c.tick-came.result refl refl c.self.view_is (c.self.invariant c.if-self.false) c.len-before.ensures c.tick-came.ensures.appended c.take_back.ensures c.tick-came.ensures.ticks).sound

pub invariant_of-self : goal.invariant_of-self
invariant_of-self g c =
    where_whole c.tick-came.result c.is_err-self-inside.ensures.value
    (tick_clauses _ _ _ _ _ _ c.tick-came.result refl refl c.self.view_is (c.self.invariant c.if-self.false) c.len-before.ensures c.tick-came.ensures.appended c.take_back.ensures c.tick-came.ensures.ticks).sound
