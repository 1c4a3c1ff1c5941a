use Rattle.mesh_nhdp.proofs.Common.{◌≡◌, ◌+◌, ◌<◌, length, ap, ◌∙◌, arith, ltb-true, Neighbourhood}
use Rattle.mesh_nhdp.proofs.HeldAddresses.{few_held}
use Rattle.mesh_nhdp.proofs.full.are_few.Goals as goal

pub returns : goal.returns
returns g c few =
    let (held, different, long, are) = c.address_count-addrs.ensures in
    let near : Neighbourhood = record { links = c.sets.inside.links.items; two_hops = c.sets.inside.two_hops.items; neighbours = c.sets.inside.neighbours; losts = c.sets.inside.losts } in
    let count : c.len-count.result ≡ length near.neighbours = c.len-count.ensures.value ∙ ap length c.table.ensures.content in
    let lost : c.len-lost.result ≡ length near.losts = c.len-lost.ensures.value ∙ ap length c.table-2.ensures.content in
    let less : c.len-count.result + c.address_count-addrs.result + c.len-lost.result + c.len-told.result < 1024 = ltb-true _ 1024 few in
    rw (← c.sets.view_is) (few_held near c.args.telling.now.listed c.args.telling.now.originator held are (omega (arith, less, long, count, lost, c.len-told.ensures)))
