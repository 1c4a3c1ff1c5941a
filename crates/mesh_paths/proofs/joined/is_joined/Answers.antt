use Rattle.mesh_paths.proofs.JoinedParts.{joined_test}
use Rattle.mesh_paths.proofs.joined.is_joined.Goals as goal

pub returns-clause-joined : goal.returns-clause-joined
returns-clause-joined c s graph = rw (c.is_in_part.ensures, c.as_slice.ensures) (joined_test s c.args.graph.now graph c.args.x c.args.w)
