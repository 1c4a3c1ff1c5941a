use Rattle.mesh_config.proofs.Common.{◌∙◌, sym}
use Rattle.mesh_config.proofs.ChecksLemmas.Links.{place_same}
use Rattle.mesh_config.proofs.checks.joins.find_place.Goals as goal

pub returns : goal.returns
returns c = c.stated_place.ensures ∙ sym (place_same c.args.routers.now (c.args.place.now.router, c.args.place.now.iface))
