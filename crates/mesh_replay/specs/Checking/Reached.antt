-- Where the lines that were read lead.
use Rattle.std.specs.Prelude.{◌≡◌, ℕ, List, [], ◌++◌, length}
use Rattle.mesh_trace.specs.machine.Net.{NetState}
use Rattle.mesh_replay.specs.declared.checking.case.Case.{Case}
use Rattle.mesh_replay.specs.Checking.Going.{at}
use Rattle.mesh_trace.specs.declared.reading.Reader.{Reader}
use Rattle.mesh_trace.specs.Positions.Leading.{Reaches}
use Rattle.mesh_trace.specs.Reading.Lines.{lines_of}
use Rattle.mesh_trace.specs.Reading.Readers.{lines_from}

-- all lines up to where the trace is read lead to the network between events
pub record HasRead (case : Case) (reader : Reader) (net : NetState) : Type 0 where
  pub lines : List (List ℕ)
  pub router : ℕ
  pub reaches : Reaches case.scenario.now lines (at net router [])
  pub read : lines_of case.trace.now ≡ lines ++ lines_from case.trace.now reader.at
  pub taken : reader.taken ≡ length lines
