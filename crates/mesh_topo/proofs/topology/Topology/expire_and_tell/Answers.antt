use Rattle.mesh_topo.proofs.Common.{arith, ◌≡◌, ◌||◌, false, router_eq, address_eq, network_eq, LiveTopology, TopologyBase, AreFew, sets_of, router_says, address_says, network_says, or_parts as neither}
use Rattle.mesh_topo.specs.Same.{SameAdvertised}
use Rattle.mesh_topo.proofs.TcSetsLemmas.Laws.{same_equal}
use Rattle.mesh_topo.proofs.Soundness.{live_fresh, live_sound}
use Rattle.mesh_topo.proofs.topology.Topology.expire_and_tell.Goals as goal

pub returns : goal.returns
returns g c =
    let old : TopologyBase = sets_of (g.B.Advertisers.Table.content c.self.inside.advertisers) c.self.inside.routers c.self.inside.addresses c.self.inside.networks in
    let new : TopologyBase = sets_of (g.B.Advertisers.Table.content c.expire.new.self) c.expire-changed.new.self c.expire-changed-2.new.self c.expire-changed-3.new.self in
    let live : LiveTopology c.args.now old new = record {
      distinct_advertisers = c.expire.ensures.distinct;
      distinct_routers = c.expire-changed.ensures.distinct;
      distinct_addresses = c.expire-changed-2.ensures.distinct;
      distinct_networks = c.expire-changed-3.ensures.distinct;
      advertisers = c.expire.ensures.kept;
      routers = c.expire-changed.ensures.kept;
      addresses = c.expire-changed-2.ensures.kept;
      networks = c.expire-changed-3.ensures.kept;
    } in
    let within : AreFew old → AreFew new = λ few. record {
      advertisers = omega (arith, c.expire.ensures.count, few.advertisers);
      routers = omega (arith, c.expire-changed.ensures.count, few.routers);
      addresses = omega (arith, c.expire-changed-2.ensures.count, few.addresses);
      networks = omega (arith, c.expire-changed-3.ensures.count, few.networks);
    } in
    let same : ((c.expire-changed.result || c.expire-changed-2.result) || c.expire-changed-3.result) ≡ false → SameAdvertised old new = λ e.
    let (first, third) = neither (c.expire-changed.result || c.expire-changed-2.result) c.expire-changed-3.result e in
    let (one, two) = neither c.expire-changed.result c.expire-changed-2.result first in
    record {
      routers = same_equal router_eq router_says old.routers new.routers (c.expire-changed.ensures.none one);
      addresses = same_equal address_eq address_says old.addresses new.addresses (c.expire-changed-2.ensures.none two);
      networks = same_equal network_eq network_says old.networks new.networks (c.expire-changed-3.ensures.none third);
    } in
    rw (← c.self.view_is) (record { live = live; same = same; within = within; fresh = live_fresh c.args.now old new live; sound = live_sound c.args.now old new live within })
