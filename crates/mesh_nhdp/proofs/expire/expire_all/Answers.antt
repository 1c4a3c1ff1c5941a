use Rattle.mesh_nhdp.proofs.Common.{on_ok_weaker, ◌∙◌, ap, sym, subst, Neighbourhood, ChangesEach}
use Rattle.mesh_nhdp.proofs.Expiry.{expiry_runs}
use Rattle.mesh_nhdp.proofs.expire.expire_all.Goals as goal

pub returns : goal.returns
returns g c =
    let settings = c.args.settings.now in
    let mid : Neighbourhood = record { links = c.sets-2.inside.links.items; two_hops = c.sets-2.inside.two_hops.items; neighbours = c.sets-2.inside.neighbours; losts = c.sets-2.inside.losts } in
    let (moment, sound) = c.requires.sound in
    let changes = subst (ChangesEach _ c.args.sets.now) (sym c.sets-2.view_is) c.in_ok-change_all.ensures in
    let both = on_ok_weaker c.follow_links.result (expiry_runs settings c.as_slice.result.now moment c.args.now c.args.sets.now mid c.follow_links.new.sets c.expire.new.self (g.B.Neighbours.Table.content c.table.result.now) c.in_ok-before.before.items
    c.deref.result.now c.as_slice.ensures sound (c.table.ensures.content ∙ ap (λ (n : Neighbourhood). n.neighbours) c.sets.view_is) c.in_ok-before.ensures changes c.expire.ensures.expired c.deref.ensures.value) c.follow_links.ensures in
    record { live = on_ok_weaker c.follow_links.result (λ b. b.0) both; sound = on_ok_weaker c.follow_links.result (λ b. b.1) both }
