-- The line of an event, where the event is the next one of the network.
use Rattle.std.specs.Prelude.{◌≡◌, ℕ, ◌+◌, ◌<◌, List, Some, slice_get, length}
use Rattle.mesh_atoms.specs.declared.addr.Addr4.{Addr4}
use Rattle.mesh_atoms.specs.declared.settings.RadioArc.{RadioArc}
use Rattle.mesh_atoms.specs.State.{State}
use Rattle.mesh_texts.specs.machine.Traffic.{Delivery, with_heard}
use Rattle.mesh_texts.specs.Lines.Marks.{face_name}
use Rattle.mesh_texts.specs.Trace.{heard_line, tick_line}
use Rattle.mesh_texts.specs.machine.Net.{NetState, HearsNext, TicksNext, HasOnlyLastTicks, IsSender}
use Rattle.mesh_trace.specs.Positions.Due.{HearsBy, TicksBy}
use Rattle.mesh_trace.specs.Reading.Lines.{IsLineOf}
use Rattle.mesh_trace.specs.Positions.Standing.{Item, TracePosition, with_state, with_traffic}

-- the line tells that the frame is heard that is next, where its arc leads to
pub record OpensHearing (old : NetState) (line : List ℕ) (new : TracePosition) : Type 0 where
  pub delivery : Delivery
  pub others : List Delivery
  pub arc : RadioArc
  pub sender : Addr4
  pub next : HearsNext old delivery others
  pub arc_is : slice_get old.scenario.arcs delivery.arc ≡ Some arc
  pub sender_is : IsSender old.scenario.routers arc sender
  pub was : State
  pub stands : slice_get old.routers arc.to ≡ Some was
  pub line_is : IsLineOf line
      (heard_line delivery.moment was.settings.name (face_name was.settings.interfaces arc.to_iface) sender delivery.frame)
  pub is : State
  pub left : List Item
  pub hears : HearsBy was (record { now = delivery.moment; iface = arc.to_iface; sender = sender }) delivery.frame is left
  pub leads : new ≡ record {
    net = with_traffic (with_state old arc.to is) (with_heard old.traffic others);
    router = arc.to;
    left = left;
  }

-- the line tells that router x ticks at now, and then so many routers had their last tick
pub record OpensTick (old : NetState) (x now last_ticks : ℕ) (line : List ℕ) (new : TracePosition) : Type 0 where
  pub was : State
  pub stands : slice_get old.routers x ≡ Some was
  pub line_is : IsLineOf line (tick_line now was.settings.name)
  pub is : State
  pub left : List Item
  pub ticks : TicksBy was now is left
  pub leads : new ≡ record { net = record (with_state old x is) { last_ticks = last_ticks }; router = x; left = left }

-- the line tells the next event of the network
pub data OpensEvent (old : NetState) (line : List ℕ) (new : TracePosition) : Type 0 where
  By_delivery : OpensHearing old line new → OpensEvent old line new
  By_tick : (x moment : ℕ) → TicksNext old x moment → OpensTick old x moment old.last_ticks line new → OpensEvent old line new
  By_last_tick : HasOnlyLastTicks old → old.last_ticks < length old.routers →
      OpensTick old old.last_ticks old.scenario.end (old.last_ticks + 1) line new → OpensEvent old line new
