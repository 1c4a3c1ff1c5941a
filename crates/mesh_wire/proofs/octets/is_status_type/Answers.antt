use Rattle.mesh_wire.proofs.Common.{sym, ◌∙◌}
use Rattle.mesh_wire.proofs.OctetKinds.{status_found}
use Rattle.mesh_wire.proofs.octets.is_status_type.Goals as goal

pub returns : goal.returns
returns c =
    let found = status_found c.args.tlv_type in
    (λ yes. found.0 (sym c.has_type.ensures ∙ yes), λ is. c.has_type.ensures ∙ found.1 is)
