use Rattle.mesh_paths.proofs.Existing.{certificate_exists}
use Rattle.mesh_paths.proofs.certificate.every_graph_has_certificate.Goals as goal

pub returns : goal.returns
returns c = certificate_exists
