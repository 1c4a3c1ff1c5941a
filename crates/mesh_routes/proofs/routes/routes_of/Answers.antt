use Rattle.mesh_routes.proofs.Common.{◌≤◌, ◌∙◌, length, arith}
use Rattle.mesh_routes.proofs.Making.{few_owners, rooted_in, pairs_in, made_of, for_state}
use Rattle.mesh_routes.proofs.Originators.{interfaces_of}
use Rattle.mesh_routes.proofs.OwnGraph.{costs_of}
use Rattle.mesh_routes.proofs.routes.routes_of.Goals as goal

pub search-requires-clause-costs : goal.search-requires-clause-costs
search-requires-clause-costs g c = costs_of (g.N.Near4.near c.args.near.now) c.args.topology.now c.len-count.result c.host-from.result c.in_ok-owners.owners c.in_ok-graph.graph c.in_ok-graph.ensures.arcs

pub search-requires-clause-few : goal.search-requires-clause-few
search-requires-clause-few g c =
    let few : length c.in_ok-owners.owners.entries ≤ 1024 = few_owners c.args.settings.now c.args.now (g.N.Near4.near c.args.near.now) c.requires.near c.in_ok-owners.owners c.in_ok-owners.ensures c.in_ok-graph.ensures.ordered in
    omega (arith, (interfaces_of c.args.settings.now).1, c.len-count.ensures, c.in_ok-graph.ensures.few, c.requires.topology.routers.limit, c.requires.topology.addresses.limit, c.requires.topology.networks.limit)

pub firsts_of-requires : goal.firsts_of-requires
firsts_of-requires g c = rooted_in c.in_ok-graph.graph c.host-from.result c.in_ok-certificate.certificate c.as_slice.result.now
    (costs_of (g.N.Near4.near c.args.near.now) c.args.topology.now c.len-count.result c.host-from.result c.in_ok-owners.owners c.in_ok-graph.graph c.in_ok-graph.ensures.arcs)
    c.as_slice.ensures c.in_ok-certificate.ensures.certificate

pub rows_of-requires : goal.rows_of-requires
rows_of-requires g c = pairs_in c.in_ok-graph.graph c.host-from.result c.in_ok-certificate.certificate c.as_slice-2.result.now c.as_slice-2.ensures c.in_ok-certificate.ensures.certificate

pub returns : goal.returns
returns g c = record {
  routes = λ s now settings near topology routes sound.
      for_state c.args.settings.now (g.N.Near4.near c.args.near.now) c.args.topology.now now c.originator.result c.in_ok-owners.owners c.len-count.result c.in_ok-graph.graph c.in_ok-certificate.certificate.rows c.in_ok-firsts.firsts c.in_ok-ways.ways.keys c.in_ok-rows.rows
      (made_of c.args.settings.now (g.N.Near4.near c.args.near.now) c.args.topology.now now c.originator.result c.host-from.result c.host-from.ensures c.in_ok-owners.owners c.len-count.result c.in_ok-graph.graph c.in_ok-certificate.certificate
      c.as_slice.result.now c.as_slice-2.result.now c.as_slice.ensures c.as_slice-2.ensures c.in_ok-firsts.firsts c.in_ok-ways.ways.keys c.in_ok-rows.rows
      sound (c.args.now, c.requires.topology) c.originator.ensures.is c.len-count.ensures c.in_ok-owners.ensures c.in_ok-graph.ensures.ordered c.in_ok-graph.ensures.arcs c.in_ok-certificate.ensures.certificate c.in_ok-firsts.ensures.right c.in_ok-firsts.ensures.all c.in_ok-ways.ensures c.in_ok-rows.ensures)
      s settings near topology (routes ∙ c.of.ensures);
}
