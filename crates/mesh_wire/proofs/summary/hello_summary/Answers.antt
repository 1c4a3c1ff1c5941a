use Rattle.mesh_wire.proofs.Common.{fields_of_message}
use Rattle.mesh_wire.proofs.HelloRead.{hello_laws}
use Rattle.mesh_wire.proofs.Reading.{summary_answered}
use Rattle.mesh_wire.proofs.summary.hello_summary.Goals as goal

pub returns : goal.returns
returns c = let m = fields_of_message c.args.message.now in record { reads = summary_answered (hello_laws m) c.header_of.result c.header_of.ensures.header c.header_of.ensures.broken c.summary_of.result c.summary_of.ensures.header c.summary_of.ensures.kept c.summary_of.ensures.broken }
