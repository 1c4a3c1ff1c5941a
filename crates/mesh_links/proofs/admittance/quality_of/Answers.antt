use Rattle.mesh_links.proofs.Common.{sym, ◌∙◌}
use Rattle.mesh_links.proofs.Admitted.{steady_quality}
use Rattle.mesh_links.proofs.admittance.quality_of.Goals as goal

pub returns-then-steady : goal.returns-then-steady
returns-then-steady c = sym (steady_quality c.args.rule.now c.args.link.now.addrs c.args.now (sym c.requires ∙ c.if-steady.true))
