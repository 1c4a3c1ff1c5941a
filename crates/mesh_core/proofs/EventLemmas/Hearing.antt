-- What is promised of a frame that is heard.
use Rattle.mesh_core.proofs.Common.{common_steps, ◌≡◌, ◌++◌, ℕ, ◌≤◌, List, [], refl, sym, ap, subst, arith, ◌∙◌, append-nil, Refusal, State, Arrival, Fate, Heard, Frame, Hears, HearsPacket, due, AreOctets, hears_due, hears_last, hears_settings, since_appends, since_is, hears_sendable, live_bases_sound, messages_sound, renews_sound, FirstFault, Outdated, EventWants, IsSoundButForDerived, IsCurrent, KeepsWanted, HearsAndKeeps, HearsTo}
use Rattle.mesh_machine.specs.declared.fate.Heard.TheVariants as heard
use Rattle.mesh_core.proofs.EventLemmas.Wholes.{bases_but, but_through, sound_but}

-- a frame leaves a router sound but for relays and routes
sound_after : (old : State) (arrival : Arrival) (bytes : List ℕ) (answer : Heard) (sent : List Frame) (whole : State) → IsSoundButForDerived old → Hears old arrival bytes answer sent whole → IsSoundButForDerived whole
sound_after old arrival bytes (heard.Refused refusal) sent whole sound hears = subst (λ (s : State). IsSoundButForDerived s) (sym hears.2) sound
sound_after old arrival bytes (heard.Taken fates) sent whole sound hears =
    sound_but whole (renews_sound old arrival.now hears.bases whole
    (messages_sound old.settings hears.own arrival bytes hears.live hears.packet.messages hears.spans hears.bases sent fates hears.is_own
    (live_bases_sound old.settings old.last arrival.now old.bases hears.live (bases_but old sound) hears.is_live) hears.takes)
    hears.renews)

-- and at no earlier moment
pub no_earlier : (old : State) (arrival : Arrival) (bytes : List ℕ) (answer : Heard) (sent : List Frame) (whole : State) → old.last ≤ arrival.now → Hears old arrival bytes answer sent whole → old.last ≤ whole.last
no_earlier old arrival bytes answer sent whole later hears = grind (arith, common_steps)

module _ (wants : EventWants) (old : State) (arrival : Arrival) (bytes : List ℕ) (before after : List Frame) (outdated : Outdated) (new : State)
    (sound : IsSoundButForDerived old) (later : old.last ≤ arrival.now) (octets : AreOctets bytes) where
  hears_to : (answer : Heard) (sent : List Frame) → after ≡ before ++ sent → KeepsWanted (Hears old arrival bytes answer sent) wants outdated new → HearsTo wants old arrival bytes answer before after outdated new
  hears_to answer sent out leaves =
      let whole : State = leaves.whole in
      let hears : Hears old arrival bytes answer sent whole = leaves.leads in
      let same = leaves.rest.same in
      let is = ap (λ (s : State). s.last) same in
      record {
        appended = since_appends before after sent out;
        leaves = subst (λ (f : List Frame). KeepsWanted (Hears old arrival bytes answer f) wants outdated new) (sym (since_is before after sent out)) leaves;
        sound = but_through whole new (sound_after old arrival bytes answer sent whole sound hears) same;
        sendable = rw (since_is before after sent out) (hears_sendable old arrival bytes answer sent whole octets hears);
        settings = sym (ap (λ (s : State). s.settings) same) ∙ hears_settings old arrival bytes answer sent whole hears;
        last = let before_now = hears_last old arrival bytes answer sent whole later hears in omega (arith, before_now, is);
        no_earlier = let not_before = no_earlier old arrival bytes answer sent whole later hears in omega (arith, not_before, is);
        due = sym (ap (λ (s : State). due s) same) ∙ hears_due old arrival bytes answer sent whole hears;
      }

  -- a packet
  pub packet_to : (fates : List Fate) (sent : List Frame) → after ≡ before ++ sent → KeepsWanted (HearsPacket old arrival bytes fates sent) wants outdated new → HearsTo wants old arrival bytes (heard.Taken fates) before after outdated new
  packet_to fates sent out leaves = hears_to (heard.Taken fates) sent out (record { whole = leaves.whole; leads = leaves.leads; rest = leaves.rest; current = leaves.current })

-- a frame that is refused
pub refused_to : (wants : EventWants) (s : State) (arrival : Arrival) (bytes : List ℕ) (out : List Frame) (outdated : Outdated) → IsSoundButForDerived s → s.last ≤ arrival.now → AreOctets bytes → IsCurrent outdated s →
    (refusal : Refusal) → FirstFault bytes refusal.place refusal.reason → HearsTo wants s arrival bytes (heard.Refused refusal) out out outdated s
refused_to wants s arrival bytes out outdated sound later octets current refusal fault =
    hears_to wants s arrival bytes out out outdated s sound later octets (heard.Refused refusal) [] (sym (append-nil out))
    (record { whole = s; leads = (fault, refl, refl); rest = record { same = refl; relays = λ wanted. refl; routes = λ wanted. refl }; current = current })

-- a frame that was read before, whose octets are these, of which what is sent stands alone
pub alone_to : (wants : EventWants) (old : State) (arrival : Arrival) {read bytes : List ℕ} {kept : Heard} {before after : List Frame} {outdated : Outdated} {new : State} → read ≡ bytes → before ≡ [] →
    HearsAndKeeps wants old arrival read kept before after outdated new → (answer : Heard) × HearsTo wants old arrival bytes answer [] after outdated new
alone_to wants old arrival {read} {bytes} {kept} {before} {after} {outdated} {new} are none heard = (
  heard.answer,
  subst (λ (o : List ℕ). HearsTo wants old arrival o heard.answer [] after outdated new) are
      (subst (λ (f : List Frame). HearsTo wants old arrival read heard.answer f after outdated new) none heard.hears),
)
