use Rattle.mesh_io.proofs.Stores.{given_front}
use Rattle.mesh_io.proofs.air_log.give_frame.Goals as goal

pub returns-clause-front : goal.returns-clause-front
returns-clause-front c = given_front c.args.bytes.now c.args.buf.now c.copy_from_slice.new.self c.min-len.result c.min-len.ensures c.requires c.copy_from_slice.ensures.after
