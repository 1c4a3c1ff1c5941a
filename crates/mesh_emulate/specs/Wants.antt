-- What is wanted of an emulation.
use Rattle.std.specs.Prelude.{◌≡◌, ◌<◌, ℕ, List, length, Bool, Option, Some, None, option_map, slice_get, codes, IfSome}
use Rattle.std.specs.Option.{option_copied}
use Rattle.mesh_atoms.specs.declared.addr.Addr4.{Addr4}
use Rattle.mesh_atoms.specs.declared.settings.RouterSettings.{RouterSettings}
use Rattle.mesh_atoms.specs.declared.settings.Scenario.{Scenario}
use Rattle.mesh_emulate.specs.declared.wanted.Departure.{Departure}
use Rattle.mesh_emulate.specs.declared.wanted.Errand.{Errand}
use Rattle.mesh_emulate.specs.declared.wanted.NamedPacket.{NamedPacket}
use Rattle.mesh_emulate.specs.declared.wanted.Wanted.{Wanted}

-- a packet to that address, from the router of that name
pub record WantedPacket : Type 0 where
  pub from : List ℕ
  pub dest : Addr4

-- the trace of the events, the trip of a packet at the end, and the probe of the network by the router of that name
pub record Wants : Type 0 where
  pub trace : Bool
  pub send : Option WantedPacket
  pub probe : Option (List ℕ)

-- the same, wherever the names lie
abbrev pub packet_of : NamedPacket → WantedPacket
packet_of p = record { from = p.from.now; dest = p.dest }

abbrev pub wants_of : Wanted → Wants
wants_of w = record { trace = w.trace; send = option_map packet_of w.send; probe = option_copied w.probe }

-- the router at that place has the name
abbrev pub HasName : List RouterSettings → List ℕ → ℕ → Type 0
HasName routers name x = (r : RouterSettings) × (slice_get routers x ≡ Some r) × (r.name ≡ name)

-- the name is that of router x
abbrev pub IsNamed : Scenario → List ℕ → ℕ → Type 0
IsNamed s name x = HasName s.routers name x

-- By numbers of routers

-- both are there and belong together, or neither is
abbrev pub Agree : {A B : Type 0} → (A → B → Type 0) → Option A → Option B → Type 0
Agree R None None = Unit {0}
Agree R (Some a) (Some b) = R a b
Agree R None (Some b) = ⊥
Agree R (Some a) None = ⊥

-- the packet, by the number of its router
abbrev pub Departs : Scenario → WantedPacket → Departure → Type 0
Departs s packet departure = IsNamed s packet.from departure.from × (departure.dest ≡ packet.dest)

-- what is wanted, by numbers of the scenario's routers
pub record IsErrand (s : Scenario) (wants : Wants) (errand : Errand) : Type 0 where
  pub trace : errand.trace ≡ wants.trace
  pub departs : Agree (Departs s) wants.send errand.send
  pub origin : Agree (IsNamed s) wants.probe errand.probe

-- its numbers are those of routers
pub record IsWithin (s : Scenario) (errand : Errand) : Type 0 where
  pub from : IfSome errand.send (λ departure. departure.from < length s.routers)
  pub origin : IfSome errand.probe (λ origin. origin < length s.routers)

-- Names that no router has

-- no router has the name, which is refused with that number and with the option's name as key
pub record IsUnknownName (s : Scenario) (name option : List ℕ) (number : ℕ) (key : List ℕ) : Type 0 where
  pub none : (x : ℕ) → IsNamed s name x → ⊥
  pub is_number : number ≡ 45
  pub is_key : key ≡ option

-- a name is wanted that no router has
abbrev pub NamesUnknown : Scenario → Option (List ℕ) → List ℕ → ℕ → List ℕ → Type 0
NamesUnknown s wanted option number key = (name : List ℕ) × (wanted ≡ Some name) × IsUnknownName s name option number key

-- none is wanted, or some router has it
abbrev pub NamesKnown : Scenario → Option (List ℕ) → Type 0
NamesKnown s wanted = (name : List ℕ) → wanted ≡ Some name → (x : ℕ) × IsNamed s name x

-- the name of the router that the packet is to start from
abbrev pub start_of : Option WantedPacket → Option (List ℕ)
start_of send = option_map (λ (packet : WantedPacket). packet.from) send

-- the first name that no router has: that of the packet's start, else that of the probe
pub data FirstUnknown (s : Scenario) (wants : Wants) (number : ℕ) (key : List ℕ) : Type 0 where
  Of_send : NamesUnknown s (start_of wants.send) (codes "send") number key → FirstUnknown s wants number key
  Of_probe : NamesKnown s (start_of wants.send) → NamesUnknown s wants.probe (codes "probe") number key → FirstUnknown s wants number key
