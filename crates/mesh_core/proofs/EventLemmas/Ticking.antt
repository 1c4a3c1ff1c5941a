-- What is promised of a tick of the clock, and of what is sent at one.
use Rattle.mesh_core.proofs.Common.{◌≡◌, ◌++◌, ℕ, ◌<◌, List, sym, ap, subst, ◌∙◌, State, Frame, TicksAt, due, since_appends, since_is, ticks_due, ticks_sendable, live_bases_sound, renews_sound, EventWants, Outdated, IsSoundButForDerived, KeepsWanted, TicksTo, OnlyAppends, append_assoc}
use Rattle.mesh_core.proofs.EventLemmas.Wholes.{bases_but, but_through, sound_but}

pub ticks_to : (wants : EventWants) (old : State) (now : ℕ) (before after : List Frame) (outdated : Outdated) (new : State) → IsSoundButForDerived old →
    (sent : List Frame) → after ≡ before ++ sent → KeepsWanted (TicksAt old now sent) wants outdated new → TicksTo wants old now before after outdated new
ticks_to wants old now before after outdated new sound sent out leaves =
    let whole : State = leaves.whole in
    let ticks : TicksAt old now sent whole = leaves.leads in
    let same = leaves.rest.same in
    record {
      appended = since_appends before after sent out;
      leaves = subst (λ (f : List Frame). KeepsWanted (TicksAt old now f) wants outdated new) (sym (since_is before after sent out)) leaves;
      sound = but_through whole new
          (sound_but whole (renews_sound old now ticks.live whole (live_bases_sound old.settings old.last now old.bases ticks.live (bases_but old sound) ticks.is_live) ticks.renews)) same;
      sendable = rw (since_is before after sent out) (ticks_sendable _ _ _ _ ticks);
      settings = sym (ap (λ (s : State). s.settings) same) ∙ ticks.renews.settings;
      last = sym (ap (λ (s : State). s.last) same) ∙ ticks.renews.last;
      due = subst (λ (n : ℕ). now < n) (ap (λ (s : State). due s) same) (ticks_due old now sent whole ticks);
    }

-- frames were put at the end twice
pub appended_twice : (before mid after : List Frame) → OnlyAppends before mid → OnlyAppends mid after → OnlyAppends before after
appended_twice before mid after (first, was) (more, is) = (first ++ more, is ∙ (ap (λ (f : List Frame). f ++ more) was ∙ append_assoc before first more))
