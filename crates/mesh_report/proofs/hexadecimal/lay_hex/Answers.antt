use Rattle.mesh_report.proofs.Common.{◌∙◌}
use Rattle.mesh_report.proofs.LaidHex.{digits_all}
use Rattle.mesh_report.proofs.hexadecimal.lay_hex.Goals as goal

pub returns : goal.returns
returns c = digits_all c.args.octets.now c.lay_rest.new.out (c.lay_rest.ensures.len ∙ c.lay_wide.ensures.len ∙ c.requires) (c.lay_rest.ensures.digits c.lay_wide.ensures.digits)
