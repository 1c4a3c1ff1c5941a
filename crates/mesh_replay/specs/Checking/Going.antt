-- How lines that are read lead on.
use Rattle.std.specs.Prelude.{◌≡◌, ℕ, ◌+◌, List, ◌∷◌, ◌++◌, length, Bool, IsTrue, IsFalse}
use Rattle.mesh_trace.specs.machine.Net.{NetState}
use Rattle.mesh_trace.specs.declared.reading.Reader.{Reader}
use Rattle.mesh_trace.specs.Positions.Leading.{LineLeads, LeadsBy}
use Rattle.mesh_trace.specs.Positions.Standing.{Item, TracePosition, IsDone}
use Rattle.mesh_trace.specs.Reading.Readers.{lines_from}

-- a position at which these items of an event of router x are left
abbrev pub at : NetState → ℕ → List Item → TracePosition
at net x items = record { net = net; router = x; left = items }

-- the lines that were read lead from a position to a position
pub record Went (trace : List ℕ) (old new : Reader) (p q : TracePosition) : Type 0 where
  pub lines : List (List ℕ)
  pub leads : LeadsBy p lines q
  pub read : lines_from trace old.at ≡ lines ++ lines_from trace new.at
  pub taken : new.taken ≡ old.taken + length lines

-- the next line, if there is one, doesn't lead on from there
abbrev pub NothingLeadsOn : List ℕ → Reader → TracePosition → Type 0
NothingLeadsOn trace reader p =
    (line : List ℕ) (rest : List (List ℕ)) (q : TracePosition) → lines_from trace reader.at ≡ line ∷ rest → LineLeads p line q → ⊥

-- the lines that were read lead to a position from which the next one doesn't, or isn't there though the trace isn't done
pub record StopsBefore (trace : List ℕ) (old new : Reader) (p : TracePosition) : Type 0 where
  pub stop : TracePosition
  pub went : Went trace old new p stop
  pub holds : NothingLeadsOn trace new stop
  pub undone : IsDone stop → ⊥

-- where the lines fit they lead to that position, and else they stop on the way
pub record FitsOrStops (trace : List ℕ) (old new : Reader) (p q : TracePosition) (fits : Bool) : Type 0 where
  pub goes : IsTrue fits → Went trace old new p q
  pub stops : IsFalse fits → StopsBefore trace old new p
