-- The router as a machine: one step for each event, and runs of them.
use Rattle.std.specs.Prelude.{◌≡◌, ℕ, ◌++◌, ◌∷◌, [], List, None, length, min, replicate}
use Rattle.mesh_atoms.specs.declared.addr.Addr4.{Addr4}
use Rattle.mesh_atoms.specs.declared.tuples.Relays.{Relays}
use Rattle.mesh_atoms.specs.declared.settings.RouterSettings.{RouterSettings}
use Rattle.mesh_atoms.specs.Advertised.{AreTcRows}
use Rattle.mesh_atoms.specs.Live.{Live}
use Rattle.mesh_atoms.specs.State.{Bases, State, IsOriginator}
use Rattle.mesh_wire.specs.packet.declared.packet.Span.{Span}
use Rattle.mesh_wire.specs.packet.Fields.{PacketFields}
use Rattle.mesh_wire.specs.packet.Grammar.{Spells, FirstFault}
use Rattle.mesh_machine.specs.declared.arrival.Arrival.{Arrival}
use Rattle.mesh_machine.specs.declared.fate.Fate.{Fate}
use Rattle.mesh_machine.specs.declared.fate.Heard.{Heard}
use Rattle.mesh_machine.specs.declared.fate.Heard.TheVariants as heard
use Rattle.mesh_machine.specs.declared.frame.Frame.{Frame}
use Rattle.mesh_machine.specs.Renewal.{Renews}
use Rattle.mesh_machine.specs.Sending.{SendsHellos, SendsTcs}
use Rattle.mesh_machine.specs.Messages.{TakesMessages}

-- The opening state

-- no tuples on so many interfaces
abbrev pub no_bases : ℕ → Bases
no_bases count = record {
  neighbourhood = record { links = replicate count []; two_hops = replicate count []; neighbours = []; losts = [] };
  topology = record { advertisers = []; routers = []; addresses = []; networks = [] };
  noted = record { received = replicate count []; processed = []; forwarded = [] };
}

-- no relays
abbrev pub no_relays : ℕ → Relays
no_relays count = record { flooding = replicate count []; routing = [] }

-- a router with these settings before its first event: it has heard nobody, and advertises its attached networks
pub record IsOpening (settings : RouterSettings) (s : State) : Type 0 where
  pub settings_are : s.settings ≡ settings
  pub bases : s.bases ≡ no_bases (length settings.interfaces)
  pub relays : s.relays ≡ no_relays (length settings.interfaces)
  pub routes : s.routes ≡ []
  pub rows : AreTcRows s s.rows
  pub ansn : s.ansn ≡ 0
  pub emptied : s.emptied ≡ None
  pub sequence : s.sequence ≡ 0
  pub next_hello : s.next_hello ≡ settings.hello_at
  pub next_tc : s.next_tc ≡ settings.tc_at
  pub last : s.last ≡ 0

-- the moment at which the next HELLO or TC is due
abbrev pub due : State → ℕ
due s = min s.next_hello s.next_tc

-- One event

-- what happens to a router: it hears a frame of these octets, or its clock ticks
pub data Event : Type 0 where
  Hear : Arrival → (bytes : List ℕ) → Event
  Tick : (now : ℕ) → Event

-- a frame that spells a packet is heard: what is expired goes (RFC 6130, section 13), then its messages are taken in order, and what
-- is sent is what they have forwarded
pub record HearsPacket (old : State) (arrival : Arrival) (bytes : List ℕ) (fates : List Fate) (sent : List Frame) (new : State) :
    Type 0 where
  pub packet : PacketFields
  pub spans : List Span
  pub spelled : Spells packet spans bytes
  pub own : Addr4
  pub is_own : IsOriginator old.settings own
  pub live : Bases
  pub is_live : Live old.settings arrival.now old.bases live
  pub bases : Bases
  pub takes : TakesMessages old.settings own arrival bytes live packet.messages spans bases sent fates
  pub renews : Renews old arrival.now bases new
  pub sequence : new.sequence ≡ old.sequence
  pub next_hello : new.next_hello ≡ old.next_hello
  pub next_tc : new.next_tc ≡ old.next_tc

-- the clock ticks: what is expired goes, then what is due is sent, the HELLOs first
pub record TicksAt (old : State) (now : ℕ) (sent : List Frame) (new : State) : Type 0 where
  pub live : Bases
  pub is_live : Live old.settings now old.bases live
  pub renews : Renews old now live new
  pub hellos : List Frame
  pub sends_hellos : SendsHellos old new hellos
  pub tcs : List Frame
  pub sends_tcs : SendsTcs old new tcs
  pub sends : sent ≡ hellos ++ tcs

-- what is answered to a frame, what is sent, and the state after it. A frame with a fault changes nothing, not even by expiry
abbrev pub Hears : State → Arrival → List ℕ → Heard → List Frame → State → Type 0
Hears old arrival bytes (heard.Refused refusal) sent new =
    FirstFault bytes refusal.place refusal.reason × (sent ≡ []) × (new ≡ old)
Hears old arrival bytes (heard.Taken fates) sent new = HearsPacket old arrival bytes fates sent new

-- one event: what is sent, and the state after it. Free are the relay sets, among those that cover and are needed, and how sent
-- HELLOs and TCs are spelled, but that each address block is in the fewest octets; a base is a list whose order has no meaning. All
-- else is fixed
pub data Step (old : State) : Event → List Frame → State → Type 0 where
  Heard_frame : {arrival : Arrival} {bytes : List ℕ} {sent : List Frame} {new : State} (answer : Heard) →
      Hears old arrival bytes answer sent new → Step old (Hear arrival bytes) sent new
  Ticked : {now : ℕ} {sent : List Frame} {new : State} → TicksAt old now sent new → Step old (Tick now) sent new

-- Runs

-- a step for each event, with what each sends
pub data Steps : State → List Event → List (List Frame) → State → Type 0 where
  No_events : {s : State} → Steps s [] [] s
  First_event : {old mid new : State} {event : Event} {events : List Event} {sent : List Frame} {more : List (List Frame)} →
      Step old event sent mid → Steps mid events more new → Steps old (event ∷ events) (sent ∷ more) new

-- the events of a router with these settings from its opening state on, with what each sends
abbrev pub Run : RouterSettings → List Event → List (List Frame) → State → Type 0
Run settings events sent new = (opening : State) × IsOpening settings opening × Steps opening events sent new
