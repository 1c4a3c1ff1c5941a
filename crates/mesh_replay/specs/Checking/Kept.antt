-- What is true of a router as the checker keeps it.
use Rattle.std.specs.Prelude.{◌≡◌, ◌<◌, ◌≤◌, ◌+◌, ◌++◌, ℕ, Some, List, [], length, slice_get, map, All, Bool, IsTrue, cond, nat_eq}
use Rattle.std.specs.List.{enumerate_from}
use Rattle.mesh_atoms.specs.declared.settings.Scenario.{Scenario}
use Rattle.mesh_atoms.specs.declared.tc.TcRow.{TcRow}
use Rattle.mesh_atoms.specs.declared.tuples.Relays.{Relays}
use Rattle.mesh_atoms.specs.declared.limits.TheConstants.{MOST_TC_ROWS}
use Rattle.mesh_atoms.specs.Advertised.{AreTcRows}
use Rattle.mesh_atoms.specs.RelayGraphs.{AreRelays}
use Rattle.mesh_atoms.specs.State.{State}
use Rattle.mesh_trace.specs.machine.declared.frame.Frame.{Frame}
use Rattle.mesh_trace.specs.machine.Laws.{SoundBases}
use Rattle.mesh_topo.specs.declared.advertised.spans.PartSpan.{PartSpan}
use Rattle.mesh_topo.specs.Advertised.Spans.{part_of}
use Rattle.mesh_trace.specs.Positions.Due.{part_items}
use Rattle.mesh_trace.specs.Positions.Standing.{Item, Hello, Sent, relay_items}
use Rattle.mesh_replay.specs.declared.checking.router.Before.{Before}
use Rattle.mesh_replay.specs.declared.checking.router.EventLines.{EventLines}

-- after an event has begun: its bases are sound, and its rows are those that it advertises
pub record IsSoundRouter (s : State) : Type 0 where
  pub bases : SoundBases s.settings s.last s.bases
  pub rows : AreTcRows s s.rows

-- between events it has relays that it may have chosen, too
pub record IsAtRest (s : State) : Type 0 where
  pub sound : IsSoundRouter s
  pub relays : AreRelays s s.last

-- the router with these relays
abbrev pub with_relays : State → Relays → State
with_relays s relays = record s { relays = relays }

-- the routers of a scenario between events
pub record AreAtRest (scenario : Scenario) (routers : List State) : Type 0 where
  pub count : length routers ≡ length scenario.routers
  pub settings : (x : ℕ) (s : State) → slice_get routers x ≡ Some s → slice_get scenario.routers x ≡ Some s.settings
  pub kept : (x : ℕ) (s : State) → slice_get routers x ≡ Some s → IsAtRest s

-- rows are at most as many as a router may advertise
abbrev pub AreFewRows : List TcRow → Type 0
AreFewRows rows = length rows ≤ MOST_TC_ROWS

-- the HELLO of each interface, or none
abbrev pub hello_items : State → Bool → List Item
hello_items s due = cond due (map (λ f. Hello f.0) (enumerate_from 0 s.settings.interfaces)) []

-- a TC for each run of these rows, complete or not, from that sequence number on
abbrev pub span_items : Bool → ℕ → List TcRow → List PartSpan → List Item
span_items complete sequence rows spans = part_items complete sequence (map (part_of rows) spans)

-- a TC for each run of the router's rows, from that sequence number on
abbrev pub tc_items : State → ℕ → List PartSpan → List Item
tc_items s sequence spans = span_items (nat_eq (length spans) 1) sequence s.rows spans

-- what an event sends, and before it the relays
abbrev pub sent_items : State → EventLines → List Item
sent_items s lines = hello_items s lines.hellos ++ (tc_items s lines.sequence lines.parts ++ map Sent lines.out)

abbrev pub event_items : State → EventLines → List Item
event_items s lines = relay_items s.settings ++ sent_items s lines

-- these are runs of the rows
abbrev pub AreWithinRows : List PartSpan → List TcRow → Type 0
AreWithinRows spans rows = (i : ℕ) (span : PartSpan) → slice_get spans i ≡ Some span → span.first + span.len ≤ length rows

-- what is to be told of a router in that state, it can send
pub record HasLines (s : State) (lines : EventLines) : Type 0 where
  pub within : AreWithinRows lines.parts s.rows
  pub faces : All (λ (f : Frame). f.iface < length s.settings.interfaces) lines.out

-- the relays of the event before are good again, where that is said
abbrev pub StandAgain : State → Before → Type 0
StandAgain s before = IsTrue before.stand → AreRelays (with_relays s before.relays) s.last
