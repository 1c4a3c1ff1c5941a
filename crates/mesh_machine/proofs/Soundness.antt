-- What a step of a router keeps: expiry and each message leave sound bases sound.
use Rattle.mesh_machine.proofs.Common.{◌≡◌, ℕ, ◌≤◌, ◌<◌, arith, Bool, true, false, List, length, Option, Some, refl, sym, subst, nat_eq, Ok, common_steps, eqb-true, eqb-false, Addr4, Tc, RouterSettings, TcAnswer, TakesTc, Is_old, Overfull as Overfull_tc, Takes as Takes_tc, base_of, addr_eq, router_eq, address_eq, network_eq, flood_eq, Sound, SoundNeighbourhood, SoundTopology, SoundNoted, Neighbourhood, TopologyBase, NotedMessages, Bases, State, IsOriginator, addr_equiv, router_equiv, address_equiv, network_equiv, AreFew, Heading, Forward, AfterNote, AreWithin, key_of, process_of, is_received, is_forwarded, is_full, Span, MessageFields, Arrival, Fate, Frame, octets_at, Event, HearsPacket, Step, Heard_frame, Ticked, ConsidersForwarding, ProcessesTc, Tc_taken, Tc_passed, TakesMessage, Hello_read, Hello_broken, Tc_read, Tc_broken, Other_passed, Other_left, TakesMessages, No_messages, First_message, is_processed, SoundBases}
use Rattle.mesh_atoms.specs.declared.hello.Hello.{Hello}
use Rattle.mesh_atoms.specs.Live.{Live, LiveTopology, LiveNoted}
use Rattle.mesh_atoms.specs.TakesHello.{HelloAnswer, TakesHello, Breaks, Overfull, Overfull_two_hops, Takes}
use Rattle.mesh_topo.specs.declared.topology.TcTaken.TheVariants as taken
use Rattle.mesh_topo.proofs.Soundness as topology
use Rattle.mesh_nhdp.proofs.LiveSound.{live_sound}
use Rattle.mesh_nhdp.proofs.HelloSound.{hello_sound}
use Rattle.mesh_flood.proofs.Soundness.{sound_after_note, sound_after_expiry}
use Rattle.mesh_wire.specs.addr.declared.records.RawAddr.{RawAddr}
use Rattle.mesh_wire.specs.Hello.{OriginatorIs}
use Rattle.mesh_flood.specs.declared.verdict.Process.TheVariants as process
use Rattle.mesh_flood.proofs.Room.{has_room_processed, has_room_received, has_room_forwarded}
use Rattle.mesh_machine.specs.declared.fate.Heard.TheVariants as heard
use Rattle.mesh_machine.specs.Renewal.{Renews}
use Rattle.mesh_machine.proofs.Given.{tc_few}
use Rattle.mesh_machine.proofs.Tables.{fewer, note_fits}
use Rattle.mesh_atoms.proofs.Values.{one_originator}
use Rattle.mesh_flood.proofs.Keys.{flood_equiv}

-- ---- expiry

live_few : (now : ℕ) (old new : TopologyBase) → LiveTopology now old new → AreFew old → AreFew new
live_few now old new live few = record {
  advertisers = let h = fewer addr_eq addr_equiv now old.advertisers new.advertisers live.distinct_advertisers live.advertisers in let k = few.advertisers in omega (arith, h, k);
  routers = let h = fewer router_eq router_equiv now old.routers new.routers live.distinct_routers live.routers in let k = few.routers in omega (arith, h, k);
  addresses = let h = fewer address_eq address_equiv now old.addresses new.addresses live.distinct_addresses live.addresses in let k = few.addresses in omega (arith, h, k);
  networks = let h = fewer network_eq network_equiv now old.networks new.networks live.distinct_networks live.networks in let k = few.networks in omega (arith, h, k);
}

live_within : (settings : RouterSettings) (before now : ℕ) (old new : NotedMessages) → LiveNoted now old new → SoundNoted settings before old → AreWithin new
live_within settings before now old new live sound = record {
  received = λ i. let h = fewer flood_eq flood_equiv now (base_of old.received i) (base_of new.received i) (live.distinct_received i) (live.received i) in let k = (sound.received i).limit in omega (arith, h, k);
  processed = let h = fewer flood_eq flood_equiv now old.processed new.processed live.distinct_processed live.processed in let k = sound.processed.limit in omega (arith, h, k);
  forwarded = let h = fewer flood_eq flood_equiv now old.forwarded new.forwarded live.distinct_forwarded live.forwarded in let k = sound.forwarded.limit in omega (arith, h, k);
}

-- expiry keeps sound bases sound
pub live_bases_sound : (settings : RouterSettings) (before now : ℕ) (old new : Bases) → SoundBases settings before old → Live settings now old new → SoundBases settings now new
live_bases_sound settings before now old new sound live = record {
  neighbourhood = live_sound settings before now old.neighbourhood new.neighbourhood sound.neighbourhood live.neighbourhood
      (let least = settings.times.sound.neighbour_hold_range.least in omega (arith, least));
  topology = topology.live_sound now old.topology new.topology live.topology (live_few now old.topology new.topology live.topology) settings before sound.topology;
  noted = sound_after_expiry settings now old.noted new.noted sound.noted.interfaces live.noted (live_within settings before now old.noted new.noted live.noted sound.noted);
}

-- ---- a HELLO

pub takes_hello_sound : (settings : RouterSettings) (now i : ℕ) (sender : Addr4) (hello : Hello) (old new : Neighbourhood) (answer : HelloAnswer) → 0 < hello.validity →
    SoundNeighbourhood settings now old → TakesHello settings now i sender hello old new answer → SoundNeighbourhood settings now new
takes_hello_sound settings now i sender hello old new answer lasts sound (Breaks number is) = sound
takes_hello_sound settings now i sender hello old new answer lasts sound (Overfull told fault tells full) = sound
takes_hello_sound settings now i sender hello old new answer lasts sound (Overfull_two_hops told fault tells fits full) = sound
takes_hello_sound settings now i sender hello old new answer lasts sound (Takes told fault tells fits room after) =
    hello_sound settings now i sender hello told old new fault tells (subst (λ (n : ℕ). 0 < n) (sym tells.validity) lasts)
    (let least = settings.times.sound.link_hold_range.least in omega (arith, least)) (let least = settings.times.sound.neighbour_hold_range.least in omega (arith, least)) sound after fits room

-- ---- what is noted of a message

-- where the sets that the message goes into aren't full
pub note_sound : (settings : RouterSettings) (now i : ℕ) (heading : Heading) (processed : Bool) (answer : Forward) (old new : NotedMessages) →
    (processed ≡ true → is_full old.processed ≡ false) → (is_received answer ≡ true → is_full (base_of old.received i) ≡ false) → (is_forwarded answer ≡ true → is_full old.forwarded ≡ false) →
    SoundNoted settings now old → AfterNote settings.times now i heading processed answer old new → SoundNoted settings now new
note_sound settings now i heading processed answer old new room_processed room_received room_forwarded sound after =
    sound_after_note settings now i heading processed answer old new sound after (record {
      received = λ j. within j (nat_eq j i) refl;
      processed = note_fits processed _ _ old.processed new.processed after.tables.processed room_processed after.processed sound.processed.limit;
      forwarded = note_fits (is_forwarded answer) _ _ old.forwarded new.forwarded after.tables.forwarded room_forwarded after.forwarded sound.forwarded.limit;
    })
  where
    within : (j : ℕ) (b : Bool) → nat_eq j i ≡ b → length (base_of new.received j) ≤ 16384
    within j true same = subst (λ (n : ℕ). length (base_of new.received n) ≤ 16384) (sym (eqb-true j i same))
        (note_fits (is_received answer) _ _ (base_of old.received i) (base_of new.received i) (after.tables.received i) room_received after.received (sound.received i).limit)
    within j false other = note_fits false (key_of heading) 0 (base_of old.received j) (base_of new.received j) (after.tables.received j) (λ h. absurd cc) (after.others j (eqb-false j i other)) (sound.received j).limit

-- ---- a TC

pub takes_tc_sound : (settings : RouterSettings) (now : ℕ) (tc : Tc) (old new : TopologyBase) (answer : TcAnswer) → 0 < tc.validity → (IsOriginator settings tc.originator → ⊥) →
    SoundTopology settings now old → TakesTc now tc old new answer → SoundTopology settings now new
takes_tc_sound settings now tc old new answer lasts other sound (Is_old kept is) = sound
takes_tc_sound settings now tc old new answer lasts other sound (Overfull_tc kind not_old first) = sound
takes_tc_sound settings now tc old new answer lasts other sound (Takes_tc not_old none after) =
    topology.tc_sound now tc old new (Ok (taken.Done, true)) (Takes_tc not_old none after) (λ few. tc_few now tc old new none after) settings lasts other sound

-- ---- a message

-- a message that is processed is of another router
pub not_own : (own : Addr4) (heading : Heading) (noted : NotedMessages) (a : Addr4) → process_of own heading noted ≡ process.Do → a ≡ heading.originator → a ≡ own → ⊥
not_own own heading noted a does is mine = grind (arith, common_steps, addr_equiv)

considered_sound : (settings : RouterSettings) (own : Addr4) (arrival : Arrival) (heading : Heading) (octets : List ℕ) (is_done : Bool) (old : Bases) (noted : NotedMessages) (sent : List Frame) (answer : Forward) →
    (is_done ≡ true → process_of own heading old.noted ≡ process.Do) → SoundNoted settings arrival.now old.noted → ConsidersForwarding settings own arrival heading octets is_done old noted sent answer →
    SoundNoted settings arrival.now noted
considered_sound settings own arrival heading octets is_done old noted sent answer does sound considered =
    note_sound settings arrival.now arrival.iface heading is_done answer old.noted noted
    (λ done. has_room_processed own heading old.noted (process_of own heading old.noted) refl (does done))
    (λ is. has_room_received own heading considered.link (base_of old.noted.received arrival.iface) old.noted.forwarded answer considered.answered is)
    (λ is. has_room_forwarded own heading considered.link (base_of old.noted.received arrival.iface) old.noted.forwarded answer considered.answered is)
    sound considered.notes

processes_sound : (settings : RouterSettings) (own : Addr4) (arrival : Arrival) (old : Bases) (tc : Tc) (heading : Heading) (octets : List ℕ) (new : Bases) (sent : List Frame) (fate : Fate) →
    IsOriginator settings own → 0 < tc.validity → tc.originator ≡ heading.originator → SoundBases settings arrival.now old → ProcessesTc settings own arrival old tc heading octets new sent fate →
    SoundBases settings arrival.now new
processes_sound settings own arrival old tc heading octets new sent fate mine lasts origin sound (Tc_taken {topology} {noted} {answer} {sent = frames} {onward} does takes considered) = record {
  neighbourhood = sound.neighbourhood;
  topology = takes_tc_sound settings arrival.now tc old.topology topology answer lasts
      (λ ours. not_own own heading old.noted tc.originator does origin (one_originator settings tc.originator own ours mine)) sound.topology takes;
  noted = considered_sound settings own arrival heading octets (is_processed answer) old noted frames onward (λ h. does) sound.noted considered;
}
processes_sound settings own arrival old tc heading octets new sent fate mine lasts origin sound (Tc_passed {noted} {sent = frames} {onward} not considered) = record {
  neighbourhood = sound.neighbourhood;
  topology = sound.topology;
  noted = considered_sound settings own arrival heading octets false old noted frames onward (λ h. absurd cc) sound.noted considered;
}

-- the originator that a message reads as
pub same_originator : (o : Option RawAddr) (a b : Addr4) → OriginatorIs o (Some a) → OriginatorIs o (Some b) → a ≡ b
same_originator o a b p q = grind (arith, common_steps)

pub message_sound : (settings : RouterSettings) (own : Addr4) (arrival : Arrival) (old : Bases) (message : MessageFields) (octets : List ℕ) (new : Bases) (sent : List Frame) (fate : Fate) →
    IsOriginator settings own → SoundBases settings arrival.now old → TakesMessage settings own arrival old message octets new sent fate → SoundBases settings arrival.now new
message_sound settings own arrival old message octets new sent fate mine sound (Hello_read {near} {answer} hello kind keeps reads takes) = grind (arith, common_steps, takes_hello_sound)
message_sound settings own arrival old message octets new sent fate mine sound (Hello_broken net kind broken) = sound
message_sound settings own arrival old message octets new sent fate mine sound (Tc_read tc heading kind keeps reads is processes) = grind (arith, common_steps, processes_sound, same_originator)
message_sound settings own arrival old message octets new sent fate mine sound (Tc_broken net kind broken) = sound
message_sound settings own arrival old message octets new sent fate mine sound (Other_passed {noted} {sent = frames} {onward} heading no_hello no_tc is considered) = record {
  neighbourhood = sound.neighbourhood;
  topology = sound.topology;
  noted = considered_sound settings own arrival heading octets false old noted frames onward (λ h. absurd cc) sound.noted considered;
}
message_sound settings own arrival old message octets new sent fate mine sound (Other_left no_hello no_tc none) = sound

pub messages_sound : (settings : RouterSettings) (own : Addr4) (arrival : Arrival) (bytes : List ℕ) (old : Bases) (messages : List MessageFields) (spans : List Span) (new : Bases) (sent : List Frame) (fates : List Fate) →
    IsOriginator settings own → SoundBases settings arrival.now old → TakesMessages settings own arrival bytes old messages spans new sent fates → SoundBases settings arrival.now new
messages_sound settings own arrival bytes old messages spans new sent fates mine sound No_messages = sound
messages_sound settings own arrival bytes old messages spans new sent fates mine sound (First_message {mid = mid} {message = message} {messages = rest} {span = span} {spans = ends} {sent = one} {more = more} {fate = fate} {fates = others} takes takes_rest) =
    messages_sound settings own arrival bytes mid rest ends new more others mine (message_sound settings own arrival old message (octets_at bytes span) mid one fate mine sound takes) takes_rest

-- ---- an event

-- an event that renews over sound bases leaves a sound router
pub renews_sound : (old : State) (now : ℕ) (bases : Bases) (new : State) → SoundBases old.settings now bases → Renews old now bases new → Sound new
renews_sound old now bases new sound renews = grind (arith, common_steps)

pub bases_of : (s : State) → Sound s → SoundBases s.settings s.last s.bases
bases_of s sound = record { neighbourhood = sound.neighbourhood; topology = sound.topology; noted = sound.noted }

pub hears_packet_sound : (old : State) (arrival : Arrival) (bytes : List ℕ) (fates : List Fate) (sent : List Frame) (new : State) → Sound old → HearsPacket old arrival bytes fates sent new → Sound new
hears_packet_sound old arrival bytes fates sent new sound hears =
    renews_sound old arrival.now hears.bases new
    (messages_sound old.settings hears.own arrival bytes hears.live hears.packet.messages hears.spans hears.bases sent fates hears.is_own
    (live_bases_sound old.settings old.last arrival.now old.bases hears.live (bases_of old sound) hears.is_live) hears.takes)
    hears.renews

-- each step of a sound router leaves a sound router
pub step_sound : (old : State) (event : Event) (sent : List Frame) (new : State) → Sound old → Step old event sent new → Sound new
step_sound old event sent new sound (Heard_frame {arrival} {bytes} {sent = frames} {new = after} (heard.Refused refusal) hears) = subst (λ (s : State). Sound s) (sym hears.2) sound
step_sound old event sent new sound (Heard_frame {arrival} {bytes} {sent = frames} {new = after} (heard.Taken fates) hears) = hears_packet_sound old arrival bytes fates frames after sound hears
step_sound old event sent new sound (Ticked {now} ticks) =
    renews_sound old now ticks.live new (live_bases_sound old.settings old.last now old.bases ticks.live (bases_of old sound) ticks.is_live) ticks.renews
