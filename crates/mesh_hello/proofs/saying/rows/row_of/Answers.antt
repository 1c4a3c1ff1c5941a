use Rattle.mesh_hello.proofs.Common.{◌∙◌, entry_of}
use Rattle.mesh_hello.proofs.SayingLemmas.OneRow.{row_of, lent_some, link_by}
use Rattle.mesh_hello.proofs.saying.rows.row_of.Goals as goal

pub returns-clause-says : goal.returns-clause-says
returns-clause-says g c =
    row_of c.args.basis.now.settings.now c.args.basis.now.links.now c.args.basis.now.neighbours.now (g.O.Table.content c.args.basis.now.losts.now) c.args.basis.now.relays.now c.args.basis.now.iface c.args.basis.now.moment _ c.args.addr
    c.requires.apart c.requires.said
    (record {
      linked = entry_of c.with_address-link.result;
      near = entry_of c.neighbour_with-neighbour.result;
      is_near = c.is_some.result;
      is_lost = c.is_lost.result;
      linked_is = link_by c.args.basis.now.links.now c.args.addr c.with_address-link.result c.with_address-link.ensures.distinct c.with_address-link.ensures.some c.with_address-link.ensures.none;
      near_is = c.neighbour_with-neighbour.ensures;
      is_near_so = c.is_some.ensures ∙ lent_some c.neighbour_with-neighbour.result;
      is_lost_so = c.is_lost.ensures;
      addr = c.host.ensures;
      local = c.local_of.ensures;
      link = c.link_status_said-status.ensures;
      other = c.other_said.ensures;
      link_in = c.link_in_said.ensures;
      link_out = c.link_out_said.ensures;
      near_in = c.near_in_said.ensures;
      near_out = c.near_out_said.ensures;
      flooding = c.is_flooding_relay.ensures;
      routing = rw (← c.as_slice.ensures) c.is_relay.ensures;
    })
