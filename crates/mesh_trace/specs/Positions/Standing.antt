-- Where a trace stands: the network, and what of the event at hand is still to be told.
use Rattle.std.specs.Prelude.{◌≡◌, ℕ, List, [], ◌∷◌, ◌++◌, map, slice_set, Bool}
use Rattle.std.specs.List.{enumerate_from}
use Rattle.mesh_atoms.specs.declared.settings.RouterSettings.{RouterSettings}
use Rattle.mesh_atoms.specs.declared.settings.Scenario.{Scenario}
use Rattle.mesh_atoms.specs.declared.tc.TcRow.{TcRow}
use Rattle.mesh_atoms.specs.State.{State}
use Rattle.mesh_texts.specs.machine.declared.frame.Frame.{Frame}
use Rattle.mesh_texts.specs.machine.Traffic.{Traffic}
use Rattle.mesh_texts.specs.machine.Net.{NetState}
use Rattle.mesh_texts.specs.machine.NetRun.{IsOpeningNet, IsOver}

-- one thing that is told of an event behind its first line, in a line of its own
pub data Item : Type 0 where
  Flooding : ℕ → Item  -- the flooding relays of an interface
  Routing : Item  -- the routing relays
  Hello : ℕ → Item  -- the HELLO of an interface
  Tc : Bool → ℕ → List TcRow → Item  -- the TC of these rows, complete or not, with that number: on the first interface
  Sent : Frame → Item  -- a frame of these very octets
  Lost : ℕ → Item  -- the loss of the frame before on the arc of that number

-- a position in a trace: the network, and what of the event at hand is still to be told. The router of that event has the bases, rows and
-- numbers that it has after the event; its relays are those that were told so far. Its routes are any, since nothing that is told depends
-- on them
pub record TracePosition : Type 0 where
  pub net : NetState
  pub router : ℕ  -- whose event it is
  pub left : List Item  -- what of it is still to be told, in order

-- the network with that state of router x, and with that traffic
abbrev pub with_state : NetState → ℕ → State → NetState
with_state net x s = record net { routers = slice_set net.routers x s }

abbrev pub with_traffic : NetState → Traffic → NetState
with_traffic net t = record net { traffic = t }

-- the relays that each event tells: of each interface, then for routing
abbrev pub relay_items : RouterSettings → List Item
relay_items r = map (λ f. Flooding f.0) (enumerate_from 0 r.interfaces) ++ (Routing ∷ [])

-- before the first event: the network is at its opening, and nothing is to be told
pub record IsFirstPosition (s : Scenario) (p : TracePosition) : Type 0 where
  pub opening : IsOpeningNet s p.net
  pub nobody : p.router ≡ 0
  pub none : p.left ≡ []

-- at the end: every event was done, and all of it was told
pub record IsDone (p : TracePosition) : Type 0 where
  pub over : IsOver p.net
  pub none : p.left ≡ []
