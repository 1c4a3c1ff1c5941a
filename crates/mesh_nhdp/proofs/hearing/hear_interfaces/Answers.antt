use Rattle.mesh_nhdp.proofs.Common.{length-set, on_ok_weaker, ◌≡◌, ◌∙◌, ◌<◌, ap, length, refl, sym, subst, arith, Link, LinkKey, Base, base_of, is_symmetric_in, Neighbourhood, ChangesEach, if_ok_weaker as if_ok}
use Rattle.mesh_nhdp.proofs.AllHears.{is_base, written_same, written_other}
use Rattle.mesh_nhdp.proofs.RowsRepeat.{repeated_before}
use Rattle.mesh_nhdp.proofs.hearing.hear_interfaces.Goals as goal

pub returns : goal.returns
returns g c =
    let hearing = c.args.hearing.now in
    let old = c.args.sets.now in
    let links = c.sets-2.inside.links.items in
    let mids = c.sets-2.inside.two_hops.items in
    let i = hearing.iface in
    let mid : Neighbourhood = record { links = links; two_hops = mids; neighbours = c.sets-2.inside.neighbours; losts = c.sets-2.inside.losts } in
    let C = subst (ChangesEach _ old) (sym c.sets-2.view_is) c.in_ok-change_all.ensures in
    let link_there : i < length links = omega (arith, C.links, c.requires.iface) in
    let there : i < length mids = omega (arith, C.two_hops, c.requires.iface, c.requires.same) in
    let first : base_of old.links i ≡ c.index.result.now = subst (λ (n : Neighbourhood). base_of n.links i ≡ c.index.result.now) c.sets.view_is (is_base c.sets.inside.links.items i c.index.result.now (subst (λ (n : Neighbourhood). i < length n.links) (sym c.sets.view_is) c.requires.iface) c.index.ensures) in
    let here = is_base mids i c.index_mut.result.now there c.index_mut.ensures.value in
    let symmetric_is = c.has_symmetric-symmetric.ensures ∙ ap (λ (b : Base LinkKey Link). is_symmetric_in b hearing.moment c.args.receipt.now.telling.now.least) (c.table.ensures.content ∙ sym (is_base links i c.index-2.result.now link_there c.index-2.ensures)) in
    record {
      hears = on_ok_weaker c.update_two_hops.result (λ U. record {
        rest = rw (ap (λ (n : Neighbourhood). n.neighbours) C.rest, ap (λ (n : Neighbourhood). n.losts) C.rest) refl;
        same_links = C.links;
        mids = mids;
        same_mids = C.two_hops;
        same = length-set mids i c.update_two_hops.new.two_hops;
        each = λ j lt. C.each j lt c.args.receipt.now.telling.now.least c.requires.least;
        elsewhere = λ j other. written_other mids i j c.update_two_hops.new.two_hops other;
        stood = c.has_link-stood.result;
        stood_is = rw (first, ← c.as_slice-sending.ensures) c.has_link-stood.ensures;
        updates = rw (written_same mids i c.update_two_hops.new.two_hops there, here, ← symmetric_is) U;
      }) c.update_two_hops.ensures.updates;
      repeats = if_ok c.update_two_hops.result (λ r same is symmetric.
          repeated_before c.args.receipt.now.own.now hearing.listed.now c.args.receipt.now.telling.now.least hearing.keys.now (base_of links i) hearing.moment c.args.receipt.now.hello.now (base_of old.two_hops i) (base_of mids i)
          (C.each i c.requires.iface c.args.receipt.now.telling.now.least c.requires.least).two_hops symmetric (rw here (same is (symmetric_is ∙ symmetric)))) c.update_two_hops.ensures.repeats;
    }
