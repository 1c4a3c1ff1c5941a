use Rattle.mesh_wire.proofs.Common.{fields_of_message}
use Rattle.mesh_wire.proofs.HelloRead.{hello_laws}
use Rattle.mesh_wire.proofs.Reading.{all_said, handed_on, read_answered}
use Rattle.mesh_wire.proofs.hello.hello_of.Goals as goal

pub returns-in_err-header-clause-reads : goal.returns-in_err-header-clause-reads
returns-in_err-header-clause-reads c = let m = fields_of_message c.args.message.now in handed_on (hello_laws m) c.header_of.result c.header_of.ensures.header c.header_of.ensures.broken c.in_err-header.field-0.0 c.in_err-header.ensures.broken c.from_residual.result c.from_residual.ensures.1

pub returns-clause-reads : goal.returns-clause-reads
returns-clause-reads c = let m = fields_of_message c.args.message.now in
    let (h, keeps, rows) = all_said (hello_laws m) c.header_of.result c.header_of.ensures.header c.header_of.ensures.broken c.in_ok-header.header c.in_ok-header.ensures.header c.in_ok-header.told.items c.in_ok-header.ensures.kept c.in_ok-rows.rows (rw c.as_slice.ensures.value at c.in_ok-rows.ensures) in
    read_answered (hello_laws m) c.header_of.result c.header_of.ensures.header c.header_of.ensures.broken _ (record { originator = c.originator_of.ensures; validity = h.validity; interval = h.interval; willing = h.willing; rows = rows }) keeps

pub invariant_of-result : goal.invariant_of-result
invariant_of-result c = let m = fields_of_message c.args.message.now in record { ascending = (all_said (hello_laws m) c.header_of.result c.header_of.ensures.header c.header_of.ensures.broken c.in_ok-header.header c.in_ok-header.ensures.header c.in_ok-header.told.items c.in_ok-header.ensures.kept c.in_ok-rows.rows (rw c.as_slice.ensures.value at c.in_ok-rows.ensures)).2.ascending }
