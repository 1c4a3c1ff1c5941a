-- An emulation: the scenario that the input states, a run of its network, and the pieces of its text.
use Rattle.std.specs.Prelude.{◌≡◌, ℕ, List, [], ◌∷◌, ◌++◌, Bool, true, false, Option, Some, None, IsSome}
use Rattle.std.specs.List.{concat}
use Rattle.mesh_atoms.specs.declared.gap.Gap.{Gap}
use Rattle.mesh_atoms.specs.declared.network.NetEvent.{NetEvent}
use Rattle.mesh_atoms.specs.declared.settings.Scenario.{Scenario}
use Rattle.mesh_atoms.specs.State.{State}
use Rattle.mesh_config.specs.Settings.{SettingsIs, FirstRefusal, refusals}
use Rattle.mesh_data.specs.declared.trip.Trip.{Trip}
use Rattle.mesh_data.specs.Text.{text_of}
use Rattle.mesh_data.specs.Trips.{IsTrip}
use Rattle.mesh_emulate.specs.Wants.{WantedPacket, Wants, IsNamed, FirstUnknown}
use Rattle.mesh_probe.specs.declared.coverage.Probe.{Probe}
use Rattle.mesh_probe.specs.Probes.{HasLeastNumber, TellsFlood, AreReached, IfDone}
use Rattle.mesh_probe.specs.Text.{IsProbeText}
use Rattle.mesh_texts.specs.machine.Net.{NetState, NetStep}
use Rattle.mesh_texts.specs.Network.{IsGapOf, IsSummary}
use Rattle.mesh_texts.specs.Runs.{IsTraced, WholeRun, FirstEvents}
use Rattle.mesh_config.specs.Keys.Faults.{first}

-- the input states this scenario, and has no refusal
pub record States (input : List ℕ) (scenario : Scenario) : Type 0 where
  pub says : SettingsIs input scenario
  pub clear : first (refusals input) ≡ None

-- the trip of the packet over the routes of these routers, and its text
pub record IsPacketSent (s : Scenario) (states : List State) (packet : WantedPacket) (text : List ℕ) : Type 0 where
  pub from : ℕ
  pub named : IsNamed s packet.from from
  pub trip : Trip
  pub is_trip : IsTrip s states from packet.dest trip
  pub is_text : text ≡ text_of s from packet.dest trip

-- the probe by router origin of the network that these routers are at the scenario's end: a flood over them, and whom it reaches. What
-- the routers are after it isn't told elsewhere
pub record IsProbeOf (s : Scenario) (states : List State) (origin : ℕ) (probe : Probe) : Type 0 where
  pub after : List State
  pub number : HasLeastNumber s states origin probe
  pub flood : TellsFlood s states s.end origin after probe
  pub reached : IfDone (AreReached s origin) probe

-- the probe by the router of that name, and its text
pub record IsProbed (s : Scenario) (states : List State) (name text : List ℕ) : Type 0 where
  pub origin : ℕ
  pub named : IsNamed s name origin
  pub probe : Probe
  pub is_probe : IsProbeOf s states origin probe
  pub is_text : IsProbeText s origin probe text

-- The pieces

-- the text of the trip or the probe that is wanted; empty where none is wanted
abbrev pub TellsWanted : {A : Type 0} → (A → List ℕ → Type 0) → Option A → List ℕ → Type 0
TellsWanted IsText None text = text ≡ []
TellsWanted IsText (Some wanted) text = IsText wanted text

-- such a text as one piece; no piece where none is wanted
abbrev pub piece_if : {A : Type 0} → Option A → List ℕ → List (List ℕ)
piece_if None text = []
piece_if (Some wanted) text = text ∷ []

-- the events of a run and their texts, one text each, in order
abbrev pub AreEventTexts : NetState → List NetEvent → NetState → List (List ℕ) → Type 0
AreEventTexts old [] new pieces = (new ≡ old) × (pieces ≡ [])
AreEventTexts old (event ∷ events) new pieces =
    (mid : NetState) × NetStep old event mid × (text : List ℕ) × (rest : List (List ℕ)) × IsTraced mid event text
    × AreEventTexts mid events new rest × (pieces ≡ text ∷ rest)

-- these texts where the trace is wanted; no piece where it isn't
abbrev pub TellsEvents : Bool → NetState → List NetEvent → NetState → List (List ℕ) → Type 0
TellsEvents false old events new pieces = pieces ≡ []
TellsEvents true old events new pieces = AreEventTexts old events new pieces

-- the summary of a network at the end of its run
abbrev pub IsEndSummary : Scenario → NetState → List ℕ → Type 0
IsEndSummary s net text = (gap : Option Gap) × IsGapOf s net.routers s.end gap × IsSummary s net.routers net.traffic.counts gap text

-- the scenario that the input states, a run of its network from its opening to its end, and the pieces of its text: the texts of the
-- events, the summary, and then the trip and the probe that are wanted, both over the routers as the run left them
pub record Emulation (input : List ℕ) (wants : Wants) : Type 0 where
  pub scenario : Scenario
  pub stated : States input scenario
  pub run : WholeRun scenario
  pub events : List (List ℕ)
  pub are_events : TellsEvents wants.trace run.opening run.events run.final events
  pub summary : List ℕ
  pub is_summary : IsEndSummary scenario run.final summary
  pub trip : List ℕ
  pub is_trip : TellsWanted (IsPacketSent scenario run.final.routers) wants.send trip
  pub probe : List ℕ
  pub is_probe : TellsWanted (IsProbed scenario run.final.routers) wants.probe probe
  pub pieces : List (List ℕ)
  pub are_pieces : pieces ≡ events ++ summary ∷ (piece_if wants.send trip ++ piece_if wants.probe probe)
  pub text : List ℕ
  pub whole : text ≡ concat pieces

-- Refusals

-- the settings are refused; or they are right, and a name is wanted that no router of the scenario which they state has
pub data IsRefused (input : List ℕ) (wants : Wants) (number : ℕ) (key : List ℕ) : Type 0 where
  By_settings : FirstRefusal input number key → IsRefused input wants number key
  By_name : (scenario : Scenario) → States input scenario →
      ((other : Scenario) → States input other → FirstUnknown other wants number key) → IsRefused input wants number key

-- What an emulation makes

-- what is wanted without the trip and the probe, and without the probe alone
abbrev pub without_both : Wants → Wants
without_both wants = record { trace = wants.trace; send = None; probe = None }

abbrev pub without_probe : Wants → Wants
without_probe wants = record { trace = wants.trace; send = wants.send; probe = None }

-- the pieces where an emulation stops on the way: none before its first event, the texts of some first events where the trace is
-- wanted, all but the trip that is wanted and what follows it, or all but the probe that is wanted
pub data IsFirstPart (input : List ℕ) (wants : Wants) (pieces : List (List ℕ)) : Type 0 where
  Of_nothing : pieces ≡ [] → IsFirstPart input wants pieces
  Of_first_events : (s : Scenario) → States input s → (run : FirstEvents s) → TellsEvents wants.trace run.opening run.events run.stopped pieces →
      IsFirstPart input wants pieces
  But_the_trip : IsSome wants.send → (e : Emulation input (without_both wants)) → pieces ≡ e.pieces → IsFirstPart input wants pieces
  But_the_probe : IsSome wants.probe → (e : Emulation input (without_probe wants)) → pieces ≡ e.pieces → IsFirstPart input wants pieces

-- all pieces of an emulation; or some first ones, where more are to come
abbrev pub EmulationMakes : List ℕ → Wants → List (List ℕ) → Option (Unit {0}) → Type 0
EmulationMakes input wants pieces (Some u) = (e : Emulation input wants) × (pieces ≡ e.pieces)
EmulationMakes input wants pieces None = IsFirstPart input wants pieces
