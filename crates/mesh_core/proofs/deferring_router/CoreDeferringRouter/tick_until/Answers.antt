use Rattle.mesh_core.proofs.Common.{router_state, on_ok_weaker}
use Rattle.mesh_core.proofs.EventLemmas.Wholes.{current_of, sound_but}
use Rattle.mesh_core.proofs.Spent.{on_both, where_whole}
use Rattle.mesh_core.proofs.Until.{tick_until_clauses, kept_at_once, whole_sound}
use Rattle.mesh_core.proofs.deferring_router.CoreDeferringRouter.tick_until.Goals as goal

pub tick_until-requires-clause-now : goal.tick_until-requires-clause-now
tick_until-requires-clause-now g c = c.requires.now

pub tick_until-requires-clause-ready : goal.tick_until-requires-clause-ready
tick_until-requires-clause-ready g c = λ unspent. record {
  sound = sound_but (router_state c.self.inside.router.holding c.self.inside.router.derived) (c.self.invariant unspent);
  current = current_of c.self.inside.router.outdated (router_state c.self.inside.router.holding c.self.inside.router.derived) (c.self.invariant unspent);
}

pub returns-clause-step : goal.returns-clause-step
returns-clause-step g c =
    on_ok_weaker c.tick_until.result (λ (whole, step, kept). (whole, step, kept_at_once c.args.until whole _ kept))
    (tick_until_clauses c.tick_until.result _ _ _ _ _ c.self.view_is c.tick_until.ensures.does).step

pub returns-clause-sendable : goal.returns-clause-sendable
returns-clause-sendable g c = (tick_until_clauses c.tick_until.result _ _ _ _ _ c.self.view_is c.tick_until.ensures.does).sendable

pub returns-clause-settings : goal.returns-clause-settings
returns-clause-settings g c = (tick_until_clauses c.tick_until.result _ _ _ _ _ c.self.view_is c.tick_until.ensures.does).settings

pub returns-clause-last : goal.returns-clause-last
returns-clause-last g c = (tick_until_clauses c.tick_until.result _ _ _ _ _ c.self.view_is c.tick_until.ensures.does).last

pub returns-clause-due : goal.returns-clause-due
returns-clause-due g c = (tick_until_clauses c.tick_until.result _ _ _ _ _ c.self.view_is c.tick_until.ensures.does).due

pub invariant_of-self : goal.invariant_of-self
invariant_of-self g c =
    where_whole c.tick_until.result c.tick_until.ensures.spent
    (on_both c.tick_until.result (λ unspent to. whole_sound _ _ _ _ _ (c.self.invariant unspent) to.steps) c.tick_until.ensures.unspent c.tick_until.ensures.does)
