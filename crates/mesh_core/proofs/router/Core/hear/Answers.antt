use Rattle.mesh_core.proofs.Common.{length, refl, subst, sym, ◌<◌, ◌≤◌, router_state, CoreValue}
use Rattle.mesh_core.proofs.Clauses.{whole_answer, hear_clauses}
use Rattle.mesh_core.proofs.EventLemmas.Wholes.{current_of, sound_but}
use Rattle.mesh_core.proofs.Spent.{where_whole}
use Rattle.mesh_core.proofs.router.Core.hear.Goals as goal

pub hear_content-came-requires-clause-now : goal.hear_content-came-requires-clause-now
hear_content-came-requires-clause-now g c = c.requires.now

pub hear_content-came-requires-clause-ready : goal.hear_content-came-requires-clause-ready
hear_content-came-requires-clause-ready g c = record {
  later = subst (λ (v : CoreValue). v.state.last ≤ c.args.now) (sym c.self.view_is) c.requires.later;
  iface = subst (λ (v : CoreValue). c.args.iface < length v.state.settings.interfaces) (sym c.self.view_is) c.requires.iface;
  sound = sound_but (router_state c.self.inside.router.holding c.self.inside.router.derived) (c.self.invariant c.if-self.false);
  current = current_of c.self.inside.router.outdated (router_state c.self.inside.router.holding c.self.inside.router.derived) (c.self.invariant c.if-self.false);
}

pub returns-clause-step : goal.returns-clause-step
returns-clause-step g c =
    (hear_clauses _ _ _ _ _ _ _ c.hear_content-came.result refl refl c.self.view_is (c.self.invariant c.if-self.false) c.len-before.ensures c.hear_content-came.ensures.appended c.take_back.ensures c.hear_content-came.ensures.hears).step

pub returns-clause-answer : goal.returns-clause-answer
returns-clause-answer g c =
    whole_answer c.hear_content-came.result _
    (hear_clauses _ _ _ _ _ _ _ c.hear_content-came.result refl refl c.self.view_is (c.self.invariant c.if-self.false) c.len-before.ensures c.hear_content-came.ensures.appended c.take_back.ensures c.hear_content-came.ensures.hears).answer

pub returns-clause-appended : goal.returns-clause-appended
returns-clause-appended g c =
    (hear_clauses _ _ _ _ _ _ _ c.hear_content-came.result refl refl c.self.view_is (c.self.invariant c.if-self.false) c.len-before.ensures c.hear_content-came.ensures.appended c.take_back.ensures c.hear_content-came.ensures.hears).appended

pub returns-clause-sendable : goal.returns-clause-sendable
returns-clause-sendable g c =
    (hear_clauses _ _ _ _ _ _ _ c.hear_content-came.result refl refl c.self.view_is (c.self.invariant c.if-self.false) c.len-before.ensures c.hear_content-came.ensures.appended c.take_back.ensures c.hear_content-came.ensures.hears).sendable

pub returns-clause-settings : goal.returns-clause-settings
returns-clause-settings g c =
    (hear_clauses _ _ _ _ _ _ _ c.hear_content-came.result refl refl c.self.view_is (c.self.invariant c.if-self.false) c.len-before.ensures c.hear_content-came.ensures.appended c.take_back.ensures c.hear_content-came.ensures.hears).settings

pub returns-clause-last : goal.returns-clause-last
returns-clause-last g c =
    (hear_clauses _ _ _ _ _ _ _ c.hear_content-came.result refl refl c.self.view_is (c.self.invariant c.if-self.false) c.len-before.ensures c.hear_content-came.ensures.appended c.take_back.ensures c.hear_content-came.ensures.hears).last

pub returns-clause-due : goal.returns-clause-due
returns-clause-due g c =
    (hear_clauses _ _ _ _ _ _ _ c.hear_content-came.result refl refl c.self.view_is (c.self.invariant c.if-self.false) c.len-before.ensures c.hear_content-came.ensures.appended c.take_back.ensures c.hear_content-came.ensures.hears).due

pub returns-clause-sound : goal.returns-clause-sound
returns-clause-sound g c =
    (hear_clauses _ _ _ _ _ _ _ c.hear_content-came.result refl refl c.self.view_is (c.self.invariant c.if-self.false) c.len-before.ensures c.hear_content-came.ensures.appended c.take_back.ensures c.hear_content-came.ensures.hears).sound

pub invariant_of-self-2 : goal.invariant_of-self-2
invariant_of-self-2 g c =
    where_whole c.hear_content-came.result c.is_err-self-inside.ensures.value
    (hear_clauses _ _ _ _ _ _ _ c.hear_content-came.result refl refl c.self.view_is (c.self.invariant c.if-self.false) c.len-before.ensures c.hear_content-came.ensures.appended c.take_back.ensures c.hear_content-came.ensures.hears).sound
