use Rattle.mesh_core.proofs.Common.{on_ok_weaker}
use Rattle.mesh_core.proofs.Spent.{where_whole}
use Rattle.mesh_core.proofs.Until.{tick_until_clauses}
use Rattle.mesh_core.proofs.deferring_router.DeferredCoreDeferringRouter.tick_until.Goals as goal

pub tick_until-requires-clause-now : goal.tick_until-requires-clause-now
tick_until-requires-clause-now g c = c.requires.now

pub tick_until-requires-clause-ready : goal.tick_until-requires-clause-ready
tick_until-requires-clause-ready g c = λ unspent. record {
  sound = (c.self.invariant unspent).0;
  current = (c.self.invariant unspent).1;
}

pub returns-clause-step : goal.returns-clause-step
returns-clause-step g c =
    (tick_until_clauses c.tick_until.result _ _ _ _ _ c.self.view_is c.tick_until.ensures.does).step

pub returns-clause-sendable : goal.returns-clause-sendable
returns-clause-sendable g c = (tick_until_clauses c.tick_until.result _ _ _ _ _ c.self.view_is c.tick_until.ensures.does).sendable

pub returns-clause-settings : goal.returns-clause-settings
returns-clause-settings g c = (tick_until_clauses c.tick_until.result _ _ _ _ _ c.self.view_is c.tick_until.ensures.does).settings

pub returns-clause-last : goal.returns-clause-last
returns-clause-last g c = (tick_until_clauses c.tick_until.result _ _ _ _ _ c.self.view_is c.tick_until.ensures.does).last

pub returns-clause-due : goal.returns-clause-due
returns-clause-due g c = (tick_until_clauses c.tick_until.result _ _ _ _ _ c.self.view_is c.tick_until.ensures.does).due

pub invariant_of-self : goal.invariant_of-self
invariant_of-self g c = where_whole c.tick_until.result c.tick_until.ensures.spent (on_ok_weaker c.tick_until.result (λ to. (to.steps.sound, to.steps.current)) c.tick_until.ensures.does)
