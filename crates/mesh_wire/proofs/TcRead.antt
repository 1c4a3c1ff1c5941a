-- What the reading of a TC answers.
use Rattle.mesh_wire.proofs.Common.{refl, TcIs, tc_summary_of, TcRow, none_not, MessageFields, TcHeader, tc_rule, AreRows, IsReadTcRow, TcHeaderIs, tc_row, BreaksTc}
use Rattle.mesh_wire.proofs.InOrder.{NoneBelow}
use Rattle.mesh_wire.proofs.OneTc.{one_tc}
use Rattle.mesh_wire.proofs.Reading.{Laws, laws_of}
use Rattle.mesh_wire.proofs.TcHeading.{past_header, past_validity, past_interval, past_content, an_originator}
use Rattle.mesh_wire.proofs.TcRows.{rows_are}
use Rattle.mesh_wire.proofs.TcRuled.{sound_of, tc_decides}

-- a message whose header is read breaks no rule on it
up_of : (m : MessageFields) (header : TcHeader) → TcHeaderIs m header → NoneBelow (BreaksTc m) 37
up_of m header h =
    let past = past_header m h.width (an_originator m.originator header.originator h.originator) (λ none. none_not none h.sequence) in
    past_content m (past_interval m (past_validity m past header.validity h.validity) header.interval h.interval) header.content.ansn header.content.complete h.content

pub tc_laws : (m : MessageFields) → Laws m tc_rule (BreaksTc m) (TcHeaderIs m) (TcIs m) tc_row (AreRows m (λ (row : TcRow). row.dest) (IsReadTcRow m)) tc_summary_of
tc_laws m = laws_of m tc_rule (BreaksTc m) (TcHeaderIs m) (TcIs m) tc_row _ tc_summary_of 37 (tc_decides m) (up_of m) (λ told are none. rows_are m told are (λ t has. sound_of t (none t has)))
    (λ header h rows are. (
      record {
        originator = header.originator;
        sequence = header.sequence;
        ansn = header.content.ansn;
        complete = header.content.complete;
        validity = header.validity;
        interval = header.interval;
        rows = rows;
        ascending = are.ascending;
      },
      record { originator = h.originator; sequence = h.sequence; content = h.content; validity = h.validity; interval = h.interval; rows = are },
      refl,
    ))
    (one_tc m)
