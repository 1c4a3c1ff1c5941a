use Rattle.mesh_addr.proofs.Padding.{relaid}
use Rattle.mesh_addr.proofs.reader.with_middle.Goals as goal

pub returns : goal.returns
returns c = λ head gap tail at_is long blank_is. relaid head gap tail c.args.mid.now c.args.blank c.copy_from_slice.new.self c.args.at at_is long blank_is c.copy_from_slice.ensures.after
