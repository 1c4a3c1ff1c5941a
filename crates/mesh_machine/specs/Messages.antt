-- What becomes of the messages of a frame, one after the other (RFC 7181, sections 14 to 16).
use Rattle.std.specs.Prelude.{◌≡◌, ◌≢◌, ℕ, ◌+◌, ◌≤◌, ◌++◌, ◌∷◌, [], List, Option, Some, slice_get, length, Bool, true, false}
use Rattle.mesh_atoms.specs.declared.addr.Addr4.{Addr4}
use Rattle.mesh_atoms.specs.declared.addr.NetAddr.{NetAddr}
use Rattle.mesh_atoms.specs.declared.hello.Hello.{Hello}
use Rattle.mesh_atoms.specs.declared.tc.Tc.{Tc}
use Rattle.mesh_atoms.specs.declared.tuples.Base.TheVariants.{Neighbours, TwoHops}
use Rattle.mesh_atoms.specs.declared.settings.RouterSettings.{RouterSettings}
use Rattle.mesh_atoms.specs.Base.{base_of}
use Rattle.mesh_atoms.specs.State.{Neighbourhood, TopologyBase, NotedMessages, Bases}
use Rattle.mesh_atoms.specs.TakesHello.{HelloAnswer, Taken, Broken_at, Full_of_addresses, Full_of_two_hops, TakesHello}
use Rattle.mesh_atoms.specs.AfterTc.{TcAnswer, Taken as Taken_tc, Too_old, Full_of, TakesTc}
use Rattle.mesh_wire.specs.packet.declared.packet.Span.{Span}
use Rattle.mesh_wire.specs.packet.Fields.{MessageFields}
use Rattle.mesh_wire.specs.packet.Grammar.{SpellsMessage}
use Rattle.mesh_wire.specs.Hello.{HelloIs, OriginatorIs}
use Rattle.mesh_wire.specs.HelloRules.{BreaksHello}
use Rattle.mesh_wire.specs.Rehop.{hopped}
use Rattle.mesh_wire.specs.Rules.{Keeps, FirstBroken}
use Rattle.mesh_wire.specs.Tc.{TcIs}
use Rattle.mesh_wire.specs.TcRules.{BreaksTc}
use Rattle.mesh_nhdp.specs.links.Links.{SelectorOf}
use Rattle.mesh_flood.specs.declared.verdict.Heading.{Heading}
use Rattle.mesh_flood.specs.declared.verdict.Process.{Process}
use Rattle.mesh_flood.specs.declared.verdict.Process.TheVariants as process
use Rattle.mesh_flood.specs.declared.verdict.Forward.{Forward}
use Rattle.mesh_flood.specs.declared.verdict.Forward.TheVariants as forward
use Rattle.mesh_flood.specs.Noting.{AfterNote}
use Rattle.mesh_flood.specs.Verdict.{process_of, forward_of}
use Rattle.mesh_machine.specs.declared.fate.Fate.{Fate}
use Rattle.mesh_machine.specs.declared.fate.Read.{Read}
use Rattle.mesh_machine.specs.declared.fate.Read.TheVariants as read
use Rattle.mesh_machine.specs.declared.frame.Frame.{Frame}
use Rattle.mesh_machine.specs.declared.arrival.Arrival.{Arrival}
use Rattle.mesh_machine.specs.Frames.{octets_at, on_each}

-- A message's header

-- the message can be flooded: it has IPv4 addresses, an originator and a sequence number, and this is its heading
-- (RFC 7181, section 14.1)
pub record IsHeading (message : MessageFields) (heading : Heading) : Type 0 where
  pub kind : heading.kind ≡ message.kind
  pub width : message.width ≡ 4
  pub originator : OriginatorIs message.originator (Some heading.originator)
  pub sequence : message.sequence ≡ Some heading.sequence
  pub limit : heading.limit ≡ message.limit
  pub count : heading.count ≡ message.count

-- What is answered

-- the fate of a message that isn't considered for forwarding
abbrev pub only : Read → Fate
only answer = record { read = answer; forward = forward.NotFlooded }

-- what is made of a HELLO that breaks no rule of its own
abbrev pub hello_read : HelloAnswer → Read
hello_read Taken = read.Hello
hello_read (Broken_at number) = read.Broken number
hello_read Full_of_addresses = read.Full Neighbours
hello_read Full_of_two_hops = read.Full TwoHops

-- what is made of a TC that is processed
abbrev pub tc_read : Tc → TcAnswer → Read
tc_read tc Taken_tc = read.Topology
tc_read tc (Too_old kept) = read.Old kept tc.ansn
tc_read tc (Full_of base) = read.Full base

-- what is made of a message of another type
abbrev pub other_read : Process → Read
other_read process.Own = read.Passed process.Own
other_read answer = read.Other

-- a TC counts as processed where no set is too full for it
abbrev pub is_processed : TcAnswer → Bool
is_processed (Full_of base) = false
is_processed answer = true

-- Forwarding

-- what is sent to forward a message of these octets: on each interface the message one hop further, as a packet of its own, whose
-- header is the octet 0
abbrev pub forwarding : ℕ → List ℕ → Forward → List Frame
forwarding count octets forward.Do = on_each count (0 ∷ hopped octets)
forwarding count octets answer = []

-- a message considered for forwarding (RFC 7181, section 14.3): whether it is forwarded, by the selector flag of the link that it
-- came on and by what was noted before; what is noted of it, and what is sent
pub record ConsidersForwarding (settings : RouterSettings) (own : Addr4) (arrival : Arrival) (heading : Heading) (octets : List ℕ)
    (is_done : Bool) (old : Bases) (noted : NotedMessages) (sent : List Frame) (answer : Forward) : Type 0 where
  pub link : Option Bool
  pub selector : SelectorOf (base_of old.neighbourhood.links arrival.iface) arrival.now arrival.sender link
  pub answered : answer ≡ forward_of arrival.iface own heading link old.noted
  pub notes : AfterNote settings.times arrival.now arrival.iface heading is_done answer old.noted noted
  pub sends : sent ≡ forwarding (length settings.interfaces) octets answer

-- A TC

-- a TC that breaks no rule, considered for processing (RFC 7181, section 14.2): it is taken where it isn't processed yet (section
-- 16.3), and considered for forwarding by what was noted before
pub data ProcessesTc (settings : RouterSettings) (own : Addr4) (arrival : Arrival) (old : Bases) (tc : Tc) (heading : Heading)
    (octets : List ℕ) : Bases → List Frame → Fate → Type 0 where
  Tc_taken : {topology : TopologyBase} {noted : NotedMessages} {answer : TcAnswer} {sent : List Frame} {onward : Forward} →
      process_of own heading old.noted ≡ process.Do → TakesTc arrival.now tc old.topology topology answer →
      ConsidersForwarding settings own arrival heading octets (is_processed answer) old noted sent onward →
      ProcessesTc settings own arrival old tc heading octets (record old { topology = topology; noted = noted }) sent
      (record { read = tc_read tc answer; forward = onward })
  Tc_passed : {noted : NotedMessages} {sent : List Frame} {onward : Forward} →
      process_of own heading old.noted ≢ process.Do →
      ConsidersForwarding settings own arrival heading octets false old noted sent onward →
      ProcessesTc settings own arrival old tc heading octets (record old { noted = noted }) sent
      (record { read = read.Passed (process_of own heading old.noted); forward = onward })

-- One message

-- a message of these octets is taken by the router with these settings and that originator: the bases after it, what is sent, and
-- what becomes of it. A message that breaks a rule changes nothing
pub data TakesMessage (settings : RouterSettings) (own : Addr4) (arrival : Arrival) (old : Bases) (message : MessageFields)
    (octets : List ℕ) : Bases → List Frame → Fate → Type 0 where
  -- a HELLO (RFC 6130, section 12, and RFC 7181, section 15.3); it is never forwarded
  Hello_read : {near : Neighbourhood} {answer : HelloAnswer} (hello : Hello) →
      message.kind ≡ 0 → Keeps (BreaksHello message) → HelloIs message hello →
      TakesHello settings arrival.now arrival.iface arrival.sender hello old.neighbourhood near answer →
      TakesMessage settings own arrival old message octets (record old { neighbourhood = near }) [] (only (hello_read answer))
  Hello_broken : {number : ℕ} (net : Option NetAddr) → message.kind ≡ 0 → FirstBroken (BreaksHello message) number net →
      TakesMessage settings own arrival old message octets old [] (only (read.Broken number))
  -- a TC (RFC 7181, section 16.3)
  Tc_read : {new : Bases} {sent : List Frame} {fate : Fate} (tc : Tc) (heading : Heading) →
      message.kind ≡ 1 → Keeps (BreaksTc message) → TcIs message tc → IsHeading message heading →
      ProcessesTc settings own arrival old tc heading octets new sent fate →
      TakesMessage settings own arrival old message octets new sent fate
  Tc_broken : {number : ℕ} (net : Option NetAddr) → message.kind ≡ 1 → FirstBroken (BreaksTc message) number net →
      TakesMessage settings own arrival old message octets old [] (only (read.Broken number))
  -- a message of another type, which is forwarded as it is (RFC 7181, section 14.3)
  Other_passed : {noted : NotedMessages} {sent : List Frame} {onward : Forward} (heading : Heading) →
      message.kind ≢ 0 → message.kind ≢ 1 → IsHeading message heading →
      ConsidersForwarding settings own arrival heading octets false old noted sent onward →
      TakesMessage settings own arrival old message octets (record old { noted = noted }) sent
      (record { read = other_read (process_of own heading old.noted); forward = onward })
  Other_left : message.kind ≢ 0 → message.kind ≢ 1 → ((heading : Heading) → IsHeading message heading → ⊥) →
      TakesMessage settings own arrival old message octets old [] (only read.Other)

-- All messages of a frame

-- the messages that stand there in a frame of these octets are taken in order, each over the bases that the ones before it left
pub data TakesMessages (settings : RouterSettings) (own : Addr4) (arrival : Arrival) (bytes : List ℕ) :
    Bases → List MessageFields → List Span → Bases → List Frame → List Fate → Type 0 where
  No_messages : {bases : Bases} → TakesMessages settings own arrival bytes bases [] [] bases [] []
  First_message : {old mid new : Bases} {message : MessageFields} {messages : List MessageFields} {span : Span} {spans : List Span}
      {sent more : List Frame} {fate : Fate} {fates : List Fate} →
      TakesMessage settings own arrival old message (octets_at bytes span) mid sent fate →
      TakesMessages settings own arrival bytes mid messages spans new more fates →
      TakesMessages settings own arrival bytes old (message ∷ messages) (span ∷ spans) new (sent ++ more) (fate ∷ fates)

-- Where the messages of a frame stand

-- each message is spelled by the octets at its place
pub record AreSpelled (bytes : List ℕ) (messages : List MessageFields) (spans : List Span) : Type 0 where
  pub count : length spans ≡ length messages
  pub each : (i : ℕ) (message : MessageFields) (span : Span) →
      slice_get messages i ≡ Some message → slice_get spans i ≡ Some span →
      (span.start + span.len ≤ length bytes) × SpellsMessage message (octets_at bytes span)
