-- What the text of every emulation tells of its network.
use Rattle.std.specs.Prelude.{◌≡◌, ◌≢◌, ◌↔◌, ◌⊎◌, ℕ, ◌<◌, ◌≤◌, ◌^◌, ◌++◌, List, Contains, length, Bool, Option, Some, codes, decimal}
use Rattle.mesh_atoms.specs.declared.addr.Addr4.{Addr4}
use Rattle.mesh_atoms.specs.declared.addr.NetAddr.{NetAddr}
use Rattle.mesh_atoms.specs.declared.settings.RouterSettings.{RouterSettings}
use Rattle.mesh_atoms.specs.declared.settings.Scenario.{Scenario}
use Rattle.mesh_atoms.specs.Radio.{Router, Joined, RadioLeast}
use Rattle.mesh_atoms.specs.Settled.{At}
use Rattle.mesh_atoms.specs.State.{State}
use Rattle.mesh_data.specs.declared.trip.End.TheVariants.{Arrived, NoArc, TooFar}
use Rattle.mesh_data.specs.declared.trip.Trip.{Trip}
use Rattle.mesh_data.specs.Laws.{LiesAt, HasNetwork, IsNetworkOf, ArrivesAt}
use Rattle.mesh_data.specs.Trips.{IsTrip}
use Rattle.mesh_emulate.specs.Emulation.{Emulation}
use Rattle.mesh_emulate.specs.Wants.{WantedPacket, Wants}
use Rattle.mesh_texts.specs.machine.flood.Standing.{HasFullSet}
use Rattle.mesh_probe.specs.declared.coverage.Coverage.{Coverage}
use Rattle.mesh_probe.specs.Laws.{AllWillFlood}
use Rattle.mesh_probe.specs.Probes.{IfDone, SendsOnce}
use Rattle.mesh_probe.specs.Text.{ArePeers, probe_start}
use Rattle.mesh_texts.specs.Printed.{SaysSettled, Prints, PrintsBy, LeadsThere}
use Rattle.mesh_texts.specs.Runs.{RoutersAreRuns, TellsWhetherSettled}

-- each router is a run of the machine with its settings
abbrev pub RunsMachines : Type 0
RunsMachines = (input : List ℕ) (wants : Wants) (e : Emulation input wants) → RoutersAreRuns e.run

-- a line is `settled yes` exactly where the network is settled at the end of the run
abbrev pub TellsSettled : Type 0
TellsSettled = (input : List ℕ) (wants : Wants) (e : Emulation input wants) → TellsWhetherSettled e.run e.text

-- then under a router's name stand exactly the least routes of the radio graph. Numbers are told in full where they fit the 32 bits
-- of an address and the 64 of a metric
abbrev pub PrintsLeastRoutes : Type 0
PrintsLeastRoutes =
    (input : List ℕ) (wants : Wants) (e : Emulation input wants) → SaysSettled e.text →
    (x : ℕ) (router : RouterSettings) → Router e.scenario x router →
    (dest : NetAddr) (metric : ℕ) → dest.addr.0 < 2 ^ 32 → metric < 2 ^ 64 →
    Prints e.text router.name dest metric ↔ RadioLeast e.scenario x dest metric

-- and the next hop of each leads there
abbrev pub PrintsNextHops : Type 0
PrintsNextHops =
    (input : List ℕ) (wants : Wants) (e : Emulation input wants) → SaysSettled e.text →
    (x : ℕ) (router : RouterSettings) → Router e.scenario x router →
    (dest : NetAddr) (metric : ℕ) (next : Addr4) (face : List ℕ) → dest.addr.0 < 2 ^ 32 → metric < 2 ^ 64 → next.0 < 2 ^ 32 →
    PrintsBy e.text router.name dest metric next face → LeadsThere e.scenario e.text x dest metric next face

-- Trips

-- the trip of a packet is wanted
abbrev pub sending : Bool → WantedPacket → Option (List ℕ) → Wants
sending trace packet probe = record { trace = trace; send = Some packet; probe = probe }

-- no other trip leads to the packet's address than the one that is told
abbrev pub TripsAreOnly : Type 0
TripsAreOnly =
    (input : List ℕ) (trace : Bool) (packet : WantedPacket) (probe : Option (List ℕ)) (e : Emulation input (sending trace packet probe)) (other : Trip) →
    IsTrip e.scenario e.run.final.routers e.is_trip.from packet.dest other → other ≡ e.is_trip.trip

-- where a line is `settled yes`, a packet to another router's address, to which the radio graph has a least cost, arrives there, at
-- that cost
abbrev pub TripsReachRouters : Type 0
TripsReachRouters =
    (input : List ℕ) (trace : Bool) (packet : WantedPacket) (probe : Option (List ℕ)) (e : Emulation input (sending trace packet probe)) → SaysSettled e.text →
    (y c : ℕ) → LiesAt e.scenario e.is_trip.from packet.dest y c →
    (e.is_trip.trip.end ≡ Arrived) × (e.is_trip.trip.last ≡ y) × (e.is_trip.trip.metric ≡ c)

-- where all routers are willing to route, no router has the address, and a joined router attaches a network that has it, the packet
-- arrives at a router that attaches the longest such network
abbrev pub TripsReachNetworks : Type 0
TripsReachNetworks =
    (input : List ℕ) (trace : Bool) (packet : WantedPacket) (probe : Option (List ℕ)) (e : Emulation input (sending trace packet probe)) → SaysSettled e.text →
    HasNetwork e.scenario e.is_trip.from packet.dest →
    (net : NetAddr) × IsNetworkOf e.scenario e.is_trip.from packet.dest net × ArrivesAt e.scenario e.is_trip.from net e.is_trip.trip

-- and none of these ends for want of an arc, or goes too far
abbrev pub TripsNeverStray : Type 0
TripsNeverStray =
    (input : List ℕ) (trace : Bool) (packet : WantedPacket) (probe : Option (List ℕ)) (e : Emulation input (sending trace packet probe)) → SaysSettled e.text →
    ((y c : ℕ) × LiesAt e.scenario e.is_trip.from packet.dest y c) ⊎ HasNetwork e.scenario e.is_trip.from packet.dest →
    (e.is_trip.trip.end ≢ NoArc) × (e.is_trip.trip.end ≢ TooFar)

-- Probes

-- the probe of the network by the router of that name is wanted
abbrev pub probing : Bool → Option WantedPacket → List ℕ → Wants
probing trace send name = record { trace = trace; send = send; probe = Some name }

-- all routers are willing to flood, the hop limit of router origin is no less than the number of routers, and each router has room
-- for messages
pub record FloodsFreely (s : Scenario) (states : List State) (origin : ℕ) : Type 0 where
  pub willing : AllWillFlood s
  pub limit : (r : RouterSettings) → Router s origin r → length s.routers ≤ r.times.tc_hop_limit
  pub room : (x : ℕ) (p : State) → At states x p → HasFullSet p.bases.noted → ⊥

-- each router that is joined with the origin is reached
abbrev pub ReachesJoined : Scenario → ℕ → Coverage → Type 0
ReachesJoined s origin c = (z : ℕ) → Joined s origin z → z ≢ origin → Contains c.reached z

-- of so many routers so many are reached
abbrev pub reached_counts : ℕ → ℕ → Coverage → List ℕ
reached_counts reached joined c =
    codes " number " ++ decimal c.number ++ codes " reached " ++ decimal reached ++ codes " of " ++ decimal joined
    ++ codes " sent " ++ decimal (length c.sends) ++ codes "\n"

-- the text has one line, by which all N of the N routers are reached that are joined with the origin
abbrev pub TellsAllReached : Scenario → ℕ → List ℕ → Coverage → Type 0
TellsAllReached s origin text c =
    (peers : List ℕ) × ArePeers s origin peers × (text ≡ probe_start s origin ++ reached_counts (length peers) (length peers) c)

-- then, where a line is `settled yes`, each router that is joined with the one of that name is reached,
abbrev pub ProbesReachJoined : Type 0
ProbesReachJoined =
    (input : List ℕ) (trace : Bool) (send : Option WantedPacket) (name : List ℕ) (e : Emulation input (probing trace send name)) →
    SaysSettled e.text → FloodsFreely e.scenario e.run.final.routers e.is_probe.origin →
    IfDone (ReachesJoined e.scenario e.is_probe.origin) e.is_probe.probe

-- and the text says so
abbrev pub ProbesTellAll : Type 0
ProbesTellAll =
    (input : List ℕ) (trace : Bool) (send : Option WantedPacket) (name : List ℕ) (e : Emulation input (probing trace send name)) →
    SaysSettled e.text → FloodsFreely e.scenario e.run.final.routers e.is_probe.origin →
    IfDone (TellsAllReached e.scenario e.is_probe.origin e.probe) e.is_probe.probe

-- whatever the network, no router sends twice on an interface
abbrev pub EmulatedProbesSendOnce : Type 0
EmulatedProbesSendOnce =
    (input : List ℕ) (trace : Bool) (send : Option WantedPacket) (name : List ℕ) (e : Emulation input (probing trace send name)) →
    IfDone SendsOnce e.is_probe.probe
