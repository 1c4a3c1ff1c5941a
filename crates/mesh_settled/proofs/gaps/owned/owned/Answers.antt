use Rattle.mesh_settled.proofs.Common.{all_addresses}
use Rattle.mesh_settled.proofs.gaps.owned.owned.Goals as goal

pub returns : goal.returns
returns c = c.least_apart.ensures c.args.addrs.now (all_addresses c.args.settings.now.interfaces) c.least_stranger.ensures c.least_untold.ensures
