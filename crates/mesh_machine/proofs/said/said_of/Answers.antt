use Rattle.mesh_machine.proofs.Common.{◌∙◌, sym, ap, subst, Bool, List, ◌||◌, ◌↔◌, IsTrue, Addr4, SoundNeighbourhood, Neighbourhood, IsFloodingRelay, or_else, is_link_symmetric, near_metric_in, near_metric_out, IsRelayOf}
use Rattle.mesh_nhdp.specs.expire.Table.{entry_of}
use Rattle.mesh_machine.proofs.Saying.{said_by}
use Rattle.mesh_machine.proofs.said.said_of.Goals as goal
use Rattle.mesh_hello.proofs.SayingLemmas.OneRow.{lent_some}

pub returns : goal.returns
returns g c = λ s near relays.
    let (settings, sound) = c.requires in
    let link = entry_of c.link_with-link.result in
    let neighbour = entry_of c.neighbour_with-neighbour.result in
    said_by s settings c.args.iface c.args.now c.args.addr (subst (λ (n : Neighbourhood). SoundNeighbourhood settings c.args.now n) (sym near) sound) link neighbour _
    (rw near c.link_with-link.ensures)
    (rw near c.neighbour_with-neighbour.ensures)
    (c.is_either.ensures ∙ (ap (λ (b : Bool). b || c.is_some.result) c.is_link_symmetric-symmetric.ensures ∙ ap (λ (b : Bool). is_link_symmetric link c.args.now || b) (c.is_some.ensures ∙ lent_some c.neighbour_with-neighbour.result)))
    (c.or_else.ensures ∙ (ap (λ o. or_else o c.link_metric_in.result) c.near_metric_in.ensures ∙ ap (λ o. or_else (near_metric_in neighbour) o) c.link_metric_in.ensures))
    (c.or_else-2.ensures ∙ (ap (λ o. or_else o c.link_metric_out.result) c.near_metric_out.ensures ∙ ap (λ o. or_else (near_metric_out neighbour) o) c.link_metric_out.ensures))
    (rw relays (subst (λ (b : Bool). IsTrue c.is_flooding_relay.result ↔ IsFloodingRelay c.args.relays.now.flooding c.args.iface b neighbour) c.is_link_symmetric-symmetric.ensures c.is_flooding_relay.ensures))
    (rw relays (subst (λ (l : List Addr4). IsTrue c.is_relay.result ↔ IsRelayOf l neighbour) c.as_slice.ensures c.is_relay.ensures))
