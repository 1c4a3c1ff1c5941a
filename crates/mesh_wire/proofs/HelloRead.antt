-- What the reading of a HELLO answers.
use Rattle.mesh_wire.proofs.Common.{refl, Option, None, Some, Addr4, HelloRow, address_in, RawAddr, MessageFields, HelloHeader, OriginatorIs, HelloIs, IsReadHelloRow, HelloHeaderIs, hello_row, BreaksHello, hello_rule, AreRows, hello_summary_of}
use Rattle.mesh_wire.proofs.HelloHeading.{past_count, past_validity, past_interval, past_willing}
use Rattle.mesh_wire.proofs.HelloRows.{rows_are}
use Rattle.mesh_wire.proofs.HelloRuled.{sound_of, hello_decides}
use Rattle.mesh_wire.proofs.InOrder.{NoneBelow}
use Rattle.mesh_wire.proofs.OneHello.{one_hello}
use Rattle.mesh_wire.proofs.Reading.{Laws, laws_of}

-- a message whose header is read breaks no rule on it
up_of : (m : MessageFields) (header : HelloHeader) → HelloHeaderIs m header → NoneBelow (BreaksHello m) 26
up_of m header h =
    let (octet, willing, flooding, routing) = h.willing in
    past_willing m (past_interval m (past_validity m (past_count m h.width h.limit h.count) header.validity h.validity) header.interval h.interval) octet willing

originator_of : (o : Option RawAddr) → (a : Option Addr4) × OriginatorIs o a
originator_of None = (None, tt)
originator_of (Some address) = (Some (record { 0 = address_in address.octets }), refl)

pub hello_laws : (m : MessageFields) → Laws m hello_rule (BreaksHello m) (HelloHeaderIs m) (HelloIs m) hello_row (AreRows m (λ (row : HelloRow). row.addr) (IsReadHelloRow m)) hello_summary_of
hello_laws m = laws_of m hello_rule (BreaksHello m) (HelloHeaderIs m) (HelloIs m) hello_row _ hello_summary_of 26 (hello_decides m) (up_of m) (λ told are none. rows_are m told are (λ t has. sound_of t (none t has)))
    (λ header h rows are. (
    let o = originator_of m.originator in (
      record { originator = o.0; validity = header.validity; interval = header.interval; willing = header.willing; rows = rows; ascending = are.ascending },
      record { originator = o.1; validity = h.validity; interval = h.interval; willing = h.willing; rows = are },
      refl,
    )))
    (one_hello m)
