use Rattle.mesh_core.proofs.Common.{length, subst, sym, ◌<◌, ◌≤◌, CoreValue, on_ok_weaker}
use Rattle.mesh_core.proofs.Spent.{where_whole}
use Rattle.mesh_core.proofs.Until.{hear_until_clauses}
use Rattle.mesh_core.proofs.deferring_router.DeferredCoreDeferringRouter.hear_until.Goals as goal

pub hear_until-requires-clause-now : goal.hear_until-requires-clause-now
hear_until-requires-clause-now g c = c.requires.now

pub hear_until-requires-clause-ready : goal.hear_until-requires-clause-ready
hear_until-requires-clause-ready g c = λ unspent. record {
  later = subst (λ (v : CoreValue). v.state.last ≤ c.args.arrival.now) (sym c.self.view_is) c.requires.later;
  iface = subst (λ (v : CoreValue). c.args.arrival.iface < length v.state.settings.interfaces) (sym c.self.view_is) c.requires.iface;
  sound = (c.self.invariant unspent).0;
  current = (c.self.invariant unspent).1;
}

pub returns-clause-step : goal.returns-clause-step
returns-clause-step g c =
    (hear_until_clauses c.hear_until.result _ _ _ _ _ _ c.self.view_is c.hear_until.ensures.does).step

pub returns-clause-sendable : goal.returns-clause-sendable
returns-clause-sendable g c = (hear_until_clauses c.hear_until.result _ _ _ _ _ _ c.self.view_is c.hear_until.ensures.does).sendable

pub returns-clause-settings : goal.returns-clause-settings
returns-clause-settings g c = (hear_until_clauses c.hear_until.result _ _ _ _ _ _ c.self.view_is c.hear_until.ensures.does).settings

pub returns-clause-last : goal.returns-clause-last
returns-clause-last g c = (hear_until_clauses c.hear_until.result _ _ _ _ _ _ c.self.view_is c.hear_until.ensures.does).last

pub returns-clause-no_earlier : goal.returns-clause-no_earlier
returns-clause-no_earlier g c = (hear_until_clauses c.hear_until.result _ _ _ _ _ _ c.self.view_is c.hear_until.ensures.does).no_earlier

pub returns-clause-due : goal.returns-clause-due
returns-clause-due g c = (hear_until_clauses c.hear_until.result _ _ _ _ _ _ c.self.view_is c.hear_until.ensures.does).due

pub invariant_of-self : goal.invariant_of-self
invariant_of-self g c = where_whole c.hear_until.result c.hear_until.ensures.spent (on_ok_weaker c.hear_until.result (λ to. (to.steps.sound, to.steps.current)) c.hear_until.ensures.does)
