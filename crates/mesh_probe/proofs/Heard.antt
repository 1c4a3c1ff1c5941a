-- What the hearing of a TC does.
use Rattle.mesh_probe.proofs.Common.{◌≡◌, ℕ, refl, sym, ◌∙◌, ap, subst, arith, List, [], ◌∷◌, Bool, append-nil, Addr4, RouterSettings, Tc, Live, State, Bases, NotedMessages, IsOriginator, Span, MessageFields, PacketFields, SpellsMessage, Keeps, BreaksTc, Heading, Forward, Arrival, Frame, octets_at, Hear, Step, Heard_frame, HearsPacket, Hears, IsHeading, ConsidersForwarding, ProcessesTc, Tc_taken, Tc_passed, TakesMessage, Hello_read, Hello_broken, Tc_read, Tc_broken, Other_passed, Other_left, TakesMessages, No_messages, First_message}
use Rattle.mesh_machine.proofs.packet.OneReading.{one_packet}
use Rattle.mesh_machine.specs.declared.fate.Fate.{Fate}
use Rattle.mesh_machine.specs.declared.fate.Heard.{Heard}
use Rattle.mesh_machine.specs.declared.fate.Heard.TheVariants as heard
use Rattle.mesh_probe.proofs.Carried.{Carries, spanned, no_fault}

-- a TC is flooded
pub record TookTc (settings : RouterSettings) (own : Addr4) (arrival : Arrival) (old : Bases) (m : MessageFields) (octets : List ℕ) (new : Bases) (sent : List Frame) : Type 0 where
  pub heading : Heading
  pub is_heading : IsHeading m heading
  pub is_done : Bool
  pub noted : NotedMessages
  pub answer : Forward
  pub floods : ConsidersForwarding settings own arrival heading octets is_done old noted sent answer
  pub near : new.neighbourhood ≡ old.neighbourhood
  pub noted_is : new.noted ≡ noted

processed : {settings : RouterSettings} {own : Addr4} {arrival : Arrival} {old : Bases} {m : MessageFields} {octets : List ℕ} (tc : Tc) (heading : Heading) {new : Bases} {sent : List Frame} {fate : Fate} →
    IsHeading m heading → ProcessesTc settings own arrival old tc heading octets new sent fate → TookTc settings own arrival old m octets new sent
processed tc heading is (Tc_taken {noted = noted} {onward = onward} process takes floods) = record { heading = heading; is_heading = is; is_done = _; noted = noted; answer = onward; floods = floods; near = refl; noted_is = refl }
processed tc heading is (Tc_passed {noted = noted} {onward = onward} process floods) = record { heading = heading; is_heading = is; is_done = _; noted = noted; answer = onward; floods = floods; near = refl; noted_is = refl }

took : {settings : RouterSettings} {own : Addr4} {arrival : Arrival} {old new : Bases} {m : MessageFields} {octets : List ℕ} {sent : List Frame} {fate : Fate} → m.kind ≡ 1 → Keeps (BreaksTc m) →
    TakesMessage settings own arrival old m octets new sent fate → TookTc settings own arrival old m octets new sent
took kind keeps (Hello_read hello e _ _ _) = absurd (omega (arith, kind, e))
took kind keeps (Hello_broken net e _) = absurd (omega (arith, kind, e))
took kind keeps (Tc_read tc heading _ _ _ is process) = processed tc heading is process
took kind keeps (Tc_broken {number = number} net _ first) = absurd (keeps number net first.broken)
took kind keeps (Other_passed heading _ other _ _) = absurd (other kind)
took kind keeps (Other_left _ other _) = absurd (other kind)

single : {settings : RouterSettings} {own : Addr4} {arrival : Arrival} {bytes : List ℕ} {old new : Bases} {m : MessageFields} {span : Span} {sent : List Frame} {fates : List Fate} →
    TakesMessages settings own arrival bytes old (m ∷ []) (span ∷ []) new sent fates → (one : List Frame) × (fate : Fate) × TakesMessage settings own arrival old m (octets_at bytes span) new one fate × (one ≡ sent)
single (First_message {sent = sent} {fate = fate} takes No_messages) = (sent, fate, takes, sym (append-nil sent))

-- what becomes of a router that hears a TC
pub record Hearing (m : MessageFields) (arrival : Arrival) (p q : State) (sent : List Frame) : Type 0 where
  pub own : Addr4
  pub is_own : IsOriginator p.settings own
  pub live : Bases
  pub is_live : Live p.settings arrival.now p.bases live
  pub octets : List ℕ
  pub spelled : SpellsMessage m octets
  pub bases : Bases
  pub took : TookTc p.settings own arrival live m octets bases sent
  pub settings : q.settings ≡ p.settings
  pub bases_are : q.bases ≡ bases

packet_heard : (m : MessageFields) (arrival : Arrival) (bytes : List ℕ) (p q : State) (sent : List Frame) (fates : List Fate) → Carries m bytes → m.kind ≡ 1 → Keeps (BreaksTc m) →
    HearsPacket p arrival bytes fates sent q → Hearing m arrival p q sent
packet_heard m arrival bytes p q sent fates c kind keeps h =
    let (e, f) = one_packet bytes h.packet c.packet h.spans c.spans h.spelled c.spelled in
    let (span, one, spells) = spanned m bytes c in
    let messages : h.packet.messages ≡ m ∷ [] = ap (λ (x : PacketFields). x.messages) e ∙ c.one in
    let alone : TakesMessages p.settings h.own arrival bytes h.live (m ∷ []) (span ∷ []) h.bases sent fates =
    subst (λ (ss : List Span). TakesMessages p.settings h.own arrival bytes h.live (m ∷ []) ss h.bases sent fates) (f ∙ one)
    (subst (λ (ms : List MessageFields). TakesMessages p.settings h.own arrival bytes h.live ms h.spans h.bases sent fates) messages h.takes) in
    let (its, fate, takes, same) = single alone in
    let t : TookTc p.settings h.own arrival h.live m (octets_at bytes span) h.bases its = took kind keeps takes in
    record {
      own = h.own;
      is_own = h.is_own;
      live = h.live;
      is_live = h.is_live;
      octets = octets_at bytes span;
      spelled = spells;
      bases = h.bases;
      took = subst (λ (x : List Frame). TookTc p.settings h.own arrival h.live m (octets_at bytes span) h.bases x) same t;
      settings = h.renews.settings;
      bases_are = h.renews.bases_are;
    }

answered : (m : MessageFields) (arrival : Arrival) (bytes : List ℕ) (p q : State) (sent : List Frame) → Carries m bytes → m.kind ≡ 1 → Keeps (BreaksTc m) →
    (answer : Heard) → Hears p arrival bytes answer sent q → Hearing m arrival p q sent
answered m arrival bytes p q sent c kind keeps (heard.Refused refusal) h = no_fault m bytes refusal.place refusal.reason c h.0
answered m arrival bytes p q sent c kind keeps (heard.Taken fates) h = packet_heard m arrival bytes p q sent fates c kind keeps h

pub hearing : (m : MessageFields) (arrival : Arrival) (bytes : List ℕ) (p q : State) (sent : List Frame) → Carries m bytes → m.kind ≡ 1 → Keeps (BreaksTc m) →
    Step p (Hear arrival bytes) sent q → Hearing m arrival p q sent
hearing m arrival bytes p q sent c kind keeps (Heard_frame answer h) = answered m arrival bytes p q sent c kind keeps answer h
