use Rattle.mesh_addr.proofs.Padding.{laid}
use Rattle.mesh_addr.proofs.reader.put_octets.Goals as goal

pub returns : goal.returns
returns c = λ front at_is old_is. laid front c.args.piece.now c.args.octets.now c.copy_from_slice.new.self c.args.at at_is old_is c.requires c.copy_from_slice.ensures.after
