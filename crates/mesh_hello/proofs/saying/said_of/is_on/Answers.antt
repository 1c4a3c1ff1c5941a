use Rattle.mesh_hello.proofs.Common.{sym}
use Rattle.mesh_hello.proofs.SayingLemmas.Parts.{on_by}
use Rattle.mesh_hello.proofs.saying.said_of.is_on.Goals as goal

pub returns-in-Some : goal.returns-in-Some
returns-in-Some c = on_by c.args.settings.now c.args.iface c.args.addr c.in-Some.face.now _ (sym c.in-Some.ensures) (rw (← c.as_slice.ensures) c.contains.ensures)
