-- Emulations of made networks, and what their texts tell.
use Rattle.std.specs.Prelude.{◌≡◌, ◌≢◌, ◌↔◌, ℕ, List, ◌++◌, length, map, Contains, Option}
use Rattle.std.specs.List.{AllPairs}
use Rattle.mesh_atoms.specs.declared.addr.NetAddr.{NetAddr}
use Rattle.mesh_atoms.specs.declared.settings.RouterSettings.{RouterSettings}
use Rattle.mesh_atoms.specs.declared.settings.Scenario.{Scenario}
use Rattle.mesh_atoms.specs.Radio.{Router, RadioLeast}
use Rattle.mesh_atoms.specs.State.{State}
use Rattle.mesh_emulate.specs.Making.Lines.{made_line, routes_line, TellsRoutes}
use Rattle.mesh_emulate.specs.Making.Routes.{metrics_of, IsGreatest}
use Rattle.mesh_emulate.specs.Making.Scenario.{IsMade}
use Rattle.mesh_atoms.specs.declared.gap.Gap.{Gap}
use Rattle.mesh_io.specs.Pieces.{MakesOne}
use Rattle.mesh_texts.specs.Network.{IsGapOf, counts_line, settled_text}
use Rattle.mesh_texts.specs.Printed.{IsLine, SaysSettled}
use Rattle.mesh_texts.specs.Runs.{WholeRun, RoutersAreRuns, TellsWhetherSettled}
use Rattle.mesh_atoms.specs.declared.network.Counts.{Counts}
use Rattle.mesh_emulate.specs.declared.making.kind.Kind.{Kind}

-- what is told of the network of a made scenario whose routers are in these states at its end: how it was made, what was counted, its
-- routes, and what is said of its gap
pub record IsEndText (k : Kind) (s : Scenario) (states : List State) (counts : Counts) (text : List ℕ) : Type 0 where
  pub routes : List ℕ
  pub tells_routes : TellsRoutes (metrics_of states) routes
  pub gap : Option Gap
  pub is_gap : IsGapOf s states s.end gap
  pub whole : text ≡ made_line k s ++ (counts_line s counts ++ (routes ++ settled_text s gap))

-- what is told of a run of the network
abbrev pub IsMadeText : Kind → (s : Scenario) → WholeRun s → List ℕ → Type 0
IsMadeText k s run text = IsEndText k s run.final.routers run.final.traffic.counts text

-- the made scenario, a run of its network from its opening to its end, and the text of that run
pub record MadeEmulation (k : Kind) (n seed : ℕ) : Type 0 where
  pub scenario : Scenario
  pub is_made : IsMade k n seed scenario
  pub run : WholeRun scenario
  pub text : List ℕ
  pub is_text : IsMadeText k scenario run text

-- the text of such an emulation, as one piece
abbrev pub MadeMakes : Kind → ℕ → ℕ → List (List ℕ) → Option (Unit {0}) → Type 0
MadeMakes k n seed pieces answer = MakesOne (λ (u : Unit {0}) text. (m : MadeEmulation k n seed) × (text ≡ m.text)) pieces answer

-- What holds of every made network

-- each router is a run of the machine with its settings
abbrev pub MadeNetworksRunMachines : Type 0
MadeNetworksRunMachines = (k : Kind) (n seed : ℕ) (m : MadeEmulation k n seed) → RoutersAreRuns m.run

-- a line is `settled yes` exactly where the network is settled at the end of the run; where it isn't, the text ends with `settled no`
-- and the first gap
abbrev pub MadeNetworksTellSettled : Type 0
MadeNetworksTellSettled = (k : Kind) (n seed : ℕ) (m : MadeEmulation k n seed) → TellsWhetherSettled m.run m.text

-- What the text tells where a line is `settled yes`

-- a router, and a destination that it reaches at no less than that metric
pub record Reached : Type 0 where
  pub router : ℕ
  pub dest : NetAddr
  pub metric : ℕ

-- the least routes of the radio graph: of each router to each destination, each once
pub record AreRadioRoutes (s : Scenario) (reached : List Reached) : Type 0 where
  pub each : (x : ℕ) (dest : NetAddr) (metric : ℕ) →
      Contains reached (record { router = x; dest = dest; metric = metric })
      ↔ (((r : RouterSettings) × Router s x r) × RadioLeast s x dest metric)
  pub once : AllPairs (λ a b. a ≢ b) reached

-- the third line of the text tells so many routes, and this greatest metric
abbrev pub SaysRoutes : List ℕ → ℕ → Option ℕ → Type 0
SaysRoutes text count greatest =
    (first : List ℕ) × (second : List ℕ) × (rest : List ℕ) × IsLine first × IsLine second
    × (text ≡ first ++ (second ++ (routes_line count greatest ++ rest)))

-- then it tells how many least routes the radio graph has, and the greatest metric of them
abbrev pub TellsLeastRoutes : Type 0
TellsLeastRoutes =
    (k : Kind) (n seed : ℕ) (m : MadeEmulation k n seed) → SaysSettled m.text →
    (reached : List Reached) × AreRadioRoutes m.scenario reached
    × (greatest : Option ℕ) × IsGreatest (map (λ r. r.metric) reached) greatest × SaysRoutes m.text (length reached) greatest
