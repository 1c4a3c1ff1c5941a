use Rattle.mesh_settled.proofs.Common.{◌⊎◌, Routers, Addresses, Networks, seen, IsTopicKey}
use Rattle.mesh_settled.proofs.GapsLemmas.Leasts.{least_lesser}
use Rattle.mesh_settled.proofs.report.topology_gaps.Goals as goal

pub returns : goal.returns
returns g c =
    let l = seen g.R.RouterView.state c.args.site.now in
    rw c.lesser.ensures (least_lesser l (IsTopicKey Routers) (λ k. IsTopicKey Addresses k ⊎ IsTopicKey Networks k) c.topology_gap-routers.result c.lesser-rest.result c.topology_gap-routers.ensures
    (rw c.lesser-rest.ensures (least_lesser l (IsTopicKey Addresses) (IsTopicKey Networks) c.topology_gap-addresses.result c.topology_gap-networks.result c.topology_gap-addresses.ensures c.topology_gap-networks.ensures)))
