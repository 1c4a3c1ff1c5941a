-- What a HELLO or a TC says before its rows, and how many rows it has.
use Rattle.std.specs.Prelude.{length}
use Rattle.mesh_atoms.specs.declared.hello.Hello.{Hello}
use Rattle.mesh_atoms.specs.declared.tc.Tc.{Tc}
use Rattle.mesh_wire.specs.declared.hello.HelloHeader.{HelloHeader}
use Rattle.mesh_wire.specs.declared.rows.MessageSummary.{MessageSummary}
use Rattle.mesh_wire.specs.declared.tc.TcHeader.{TcHeader}

-- of a HELLO
abbrev pub hello_summary_of : Hello → MessageSummary HelloHeader
hello_summary_of hello = record {
  header = record { validity = hello.validity; interval = hello.interval; willing = hello.willing };
  row_count = length hello.rows;
}

-- of a TC
abbrev pub tc_summary_of : Tc → MessageSummary TcHeader
tc_summary_of tc = record {
  header = record {
    originator = tc.originator;
    sequence = tc.sequence;
    content = record { ansn = tc.ansn; complete = tc.complete };
    validity = tc.validity;
    interval = tc.interval;
  };
  row_count = length tc.rows;
}
