-- What a step of a router sends can be sent.
use Rattle.mesh_machine.proofs.Common.{◌≡◌, ℕ, zero, suc, ◌+◌, ◌%◌, ◌≤◌, ◌<◌, refl, sym, subst, ◌∙◌, arith, List, [], ◌∷◌, length, take, drop, None, Bool, get_or, All, append-nil, All-nil, All-push, All-append, All-from_get_or, slice_get-get_or, Addr4, RouterSettings, Tc, TcRow, base_of, Bases, NotedMessages, State, Span, MessageFields, PacketFields, SpellsMessage, HasHop, one_hop_on, hopped, Heading, Forward, Arrival, Fate, Heard, Frame, SendsHellos, Hellos_early, Hellos_due, SendsParts, No_part, First_part, SendsTcs, Tcs_early, Tcs_silent, Tcs_due, octets_at, on_each, Event, Hears, TicksAt, Step, Heard_frame, Ticked, IsHeading, ConsidersForwarding, ProcessesTc, Tc_taken, Tc_passed, TakesMessage, Hello_read, Hello_broken, Tc_read, Tc_broken, Other_passed, Other_left, TakesMessages, No_messages, First_message, AreSpelled, forwarding, is_processed, IsOfOctets}
use Rattle.mesh_wire.proofs.Hops.{can_hop, hop_spells}
use Rattle.mesh_flood.specs.declared.verdict.Forward.TheVariants as forward
use Rattle.mesh_machine.specs.declared.fate.Heard.TheVariants as heard
use Rattle.mesh_machine.specs.Sendable.{AreOctets, IsPacket, IsSendable}
use Rattle.mesh_machine.proofs.Hops.{forwarded_hop}
use Rattle.mesh_machine.proofs.Takes.{packet_spelled}

low : 0 < 256
low = omega arith

taken_octets : (n : ℕ) (bytes : List ℕ) → AreOctets bytes → AreOctets (take n bytes)
taken_octets zero bytes are i = low
taken_octets (suc n) [] are i = low
taken_octets (suc n) (x ∷ xs) are zero = are 0
taken_octets (suc n) (x ∷ xs) are (suc i) = taken_octets n xs (λ j. are (suc j)) i

dropped_octets : (n : ℕ) (bytes : List ℕ) → AreOctets bytes → AreOctets (drop n bytes)
dropped_octets zero bytes are i = are i
dropped_octets (suc n) [] are i = low
dropped_octets (suc n) (x ∷ xs) are i = dropped_octets n xs (λ j. are (suc j)) i

part_octets : (bytes : List ℕ) (span : Span) → AreOctets bytes → AreOctets (octets_at bytes span)
part_octets bytes span are = taken_octets _ (drop span.start bytes) (dropped_octets span.start bytes are)

-- one frame on each interface
each_sendable : (settings : RouterSettings) (n : ℕ) (bytes : List ℕ) → n ≤ length settings.interfaces → IsPacket bytes → All (IsSendable settings) (on_each n bytes)
each_sendable settings zero bytes below packet = All-nil (IsSendable settings)
each_sendable settings (suc i) bytes below packet =
    All-push (IsSendable settings) (on_each i bytes) (record { iface = i; bytes = bytes }) (each_sendable settings i bytes (omega (arith, below)) packet) (record { iface = omega (arith, below); packet = packet })

-- a message one hop further, alone
hopped_packet : (message : MessageFields) (octets : List ℕ) → SpellsMessage message octets → HasHop message → IsPacket (0 ∷ hopped octets)
hopped_packet message octets spells hop =
    let packet : PacketFields = record { sequence = None; tlvs = []; messages = one_hop_on message ∷ [] } in
    let span : Span = record { start = 1; len = length (hopped octets) } in (
      packet,
      span ∷ [],
      record {
        flags = 0;
        sequence = [];
        tlvs = [];
        messages = hopped octets;
        version = omega arith;
        sequence_is = refl;
        tlvs_is = (refl, refl);
        messages_is = (hopped octets, [], hop_spells message octets spells (can_hop message octets spells hop).flagged, refl, refl, sym (append-nil (hopped octets)));
        whole = refl;
      },
    )

forwarding_sendable : (settings : RouterSettings) (octets : List ℕ) (answer : Forward) → (answer ≡ forward.Do → IsPacket (0 ∷ hopped octets)) → All (IsSendable settings) (forwarding (length settings.interfaces) octets answer)
forwarding_sendable settings octets forward.Do packet = each_sendable settings (length settings.interfaces) (0 ∷ hopped octets) (omega arith) (packet refl)
forwarding_sendable settings octets forward.NotFlooded packet = All-nil (IsSendable settings)
forwarding_sendable settings octets forward.Own packet = All-nil (IsSendable settings)
forwarding_sendable settings octets forward.NoSender packet = All-nil (IsSendable settings)
forwarding_sendable settings octets forward.NoHops packet = All-nil (IsSendable settings)
forwarding_sendable settings octets (forward.Seen until) packet = All-nil (IsSendable settings)
forwarding_sendable settings octets (forward.Full base) packet = All-nil (IsSendable settings)
forwarding_sendable settings octets (forward.Done until) packet = All-nil (IsSendable settings)
forwarding_sendable settings octets forward.NotSelector packet = All-nil (IsSendable settings)

module _ (settings : RouterSettings) (own : Addr4) (arrival : Arrival) where
  considered_sendable : (message : MessageFields) (heading : Heading) (octets : List ℕ) (is_done : Bool) (old : Bases) (noted : NotedMessages) (sent : List Frame) (answer : Forward) →
      SpellsMessage message octets → AreOctets octets → IsHeading message heading → ConsidersForwarding settings own arrival heading octets is_done old noted sent answer → All (IsSendable settings) sent
  considered_sendable message heading octets is_done old noted sent answer spells are is considered =
      subst (λ (frames : List Frame). All (IsSendable settings) frames) (sym considered.sends)
      (forwarding_sendable settings octets answer (λ does. hopped_packet message octets spells (forwarded_hop message octets heading own considered.link (base_of old.noted.received arrival.iface) old.noted.forwarded spells are is (sym considered.answered ∙ does))))

  processes_sendable : (message : MessageFields) (old : Bases) (tc : Tc) (heading : Heading) (octets : List ℕ) (new : Bases) (sent : List Frame) (fate : Fate) →
      SpellsMessage message octets → AreOctets octets → IsHeading message heading → ProcessesTc settings own arrival old tc heading octets new sent fate → All (IsSendable settings) sent
  processes_sendable message old tc heading octets new sent fate spells are is (Tc_taken {noted = noted} {answer = answer} {sent = frames} {onward = onward} does takes considered) =
      considered_sendable message heading octets (is_processed answer) old noted frames onward spells are is considered
  processes_sendable message old tc heading octets new sent fate spells are is (Tc_passed {noted = noted} {sent = frames} {onward = onward} not considered) =
      considered_sendable message heading octets _ old noted frames onward spells are is considered

  message_sendable : (old : Bases) (message : MessageFields) (octets : List ℕ) (new : Bases) (sent : List Frame) (fate : Fate) →
      SpellsMessage message octets → AreOctets octets → TakesMessage settings own arrival old message octets new sent fate → All (IsSendable settings) sent
  message_sendable old message octets new sent fate spells are (Hello_read hello kind keeps reads takes) = All-nil (IsSendable settings)
  message_sendable old message octets new sent fate spells are (Hello_broken net kind broken) = All-nil (IsSendable settings)
  message_sendable old message octets new sent fate spells are (Tc_read tc heading kind keeps reads is processes) = processes_sendable message old tc heading octets new sent fate spells are is processes
  message_sendable old message octets new sent fate spells are (Tc_broken net kind broken) = All-nil (IsSendable settings)
  message_sendable old message octets new sent fate spells are (Other_passed {noted = noted} {sent = frames} {onward = onward} heading no_hello no_tc is considered) =
      considered_sendable message heading octets _ old noted frames onward spells are is considered
  message_sendable old message octets new sent fate spells are (Other_left no_hello no_tc none) = All-nil (IsSendable settings)

  messages_sendable : (bytes : List ℕ) (old : Bases) (messages : List MessageFields) (spans : List Span) (new : Bases) (sent : List Frame) (fates : List Fate) →
      AreSpelled bytes messages spans → AreOctets bytes → TakesMessages settings own arrival bytes old messages spans new sent fates → All (IsSendable settings) sent
  messages_sendable bytes old messages spans new sent fates spelled are No_messages = All-nil (IsSendable settings)
  messages_sendable bytes old messages spans new sent fates spelled are (First_message {mid = mid} {message = message} {messages = rest} {span = span} {spans = ends} {sent = one} {more = more} {fate = fate} {fates = others} takes takes_rest) =
      All-append (IsSendable settings) one more
      (message_sendable old message (octets_at bytes span) mid one fate (spelled.each 0 message span refl refl).1 (part_octets bytes span are) takes)
      (messages_sendable bytes mid rest ends new more others (record { count = let h = spelled.count in omega (arith, h); each = λ i m s at there. spelled.each (suc i) m s at there }) are takes_rest)

-- what is sent when a frame is heard
pub hears_sendable : (old : State) (arrival : Arrival) (bytes : List ℕ) (answer : Heard) (sent : List Frame) (new : State) → AreOctets bytes → Hears old arrival bytes answer sent new → All (IsSendable old.settings) sent
hears_sendable old arrival bytes (heard.Refused refusal) sent new are (fault, none, same) = subst (λ (frames : List Frame). All (IsSendable old.settings) frames) (sym none) (All-nil (IsSendable old.settings))
hears_sendable old arrival bytes (heard.Taken fates) sent new are hears =
    messages_sendable old.settings hears.own arrival bytes hears.live hears.packet.messages hears.spans hears.bases sent fates (packet_spelled bytes hears.packet hears.spans hears.spelled) are hears.takes

hellos_sendable : (old new : State) (sent : List Frame) → SendsHellos old new sent → All (IsSendable new.settings) sent
hellos_sendable old new sent (Hellos_early early same) = All-nil (IsSendable new.settings)
hellos_sendable old new sent (Hellos_due late next frames) =
    All-from_get_or (IsSendable new.settings) sent (record { iface = 0; bytes = [] }) (λ i below.
    let frame : Frame = get_or sent i (record { iface = 0; bytes = [] }) in
    let is = frames.each i frame (slice_get-get_or sent i (record { iface = 0; bytes = [] }) below) in
    let place = is.iface in
    let count = frames.count in
    record { iface = omega (arith, below, place, count); packet = (_, _, is.written.packet.spelled) })

parts_sendable : (s : State) (validity : List ℕ) (complete : Bool) (sequence : ℕ) (parts : List (List TcRow)) (sent : List Frame) → SendsParts s validity complete sequence parts sent → All (IsSendable s.settings) sent
parts_sendable s validity complete sequence parts sent No_part = All-nil (IsSendable s.settings)
parts_sendable s validity complete sequence parts sent (First_part {parts = others} {more = more} tc bytes is written sends) =
    All-append (IsSendable s.settings) (on_each (length s.settings.interfaces) bytes) more
    (each_sendable s.settings (length s.settings.interfaces) bytes (omega arith) (_, _, written.packet.spelled))
    (parts_sendable s validity complete ((sequence + 1) % 65536) others more sends)

tcs_sendable : (old new : State) (sent : List Frame) → SendsTcs old new sent → All (IsSendable new.settings) sent
tcs_sendable old new sent (Tcs_early early same number) = All-nil (IsSendable new.settings)
tcs_sendable old new sent (Tcs_silent late next none number) = All-nil (IsSendable new.settings)
tcs_sendable old new sent (Tcs_due late next tells parts cut validity is number sends) = parts_sendable new validity _ old.sequence parts sent sends

-- what is sent at a tick
pub ticks_sendable : (old : State) (now : ℕ) (sent : List Frame) (new : State) → TicksAt old now sent new → All (IsSendable old.settings) sent
ticks_sendable old now sent new ticks =
    subst (λ (r : RouterSettings). All (IsSendable r) sent) ticks.renews.settings
    (subst (λ (frames : List Frame). All (IsSendable new.settings) frames) (sym ticks.sends)
    (All-append (IsSendable new.settings) ticks.hellos ticks.tcs (hellos_sendable old new ticks.hellos ticks.sends_hellos) (tcs_sendable old new ticks.tcs ticks.sends_tcs)))

-- what a step sends
pub step_sends_packets : (old : State) (event : Event) (sent : List Frame) (new : State) → IsOfOctets event → Step old event sent new → All (IsSendable old.settings) sent
step_sends_packets old event sent new are (Heard_frame {arrival} {bytes} {sent = frames} {new = after} answer hears) = hears_sendable old arrival bytes answer frames after are hears
step_sends_packets old event sent new are (Ticked {now} {sent = frames} {new = after} ticks) = ticks_sendable old now frames after ticks
