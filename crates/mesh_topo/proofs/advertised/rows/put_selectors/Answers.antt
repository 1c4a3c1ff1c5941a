use Rattle.mesh_topo.proofs.Common.{◌∷◌, ◌+◌, sym, ap, ◌∙◌, drop, flat_map, at_drop_more, Selector, of_selector}
use Rattle.mesh_topo.proofs.AdvertisedLemmas.Offering.{keeps_more}
use Rattle.mesh_topo.proofs.advertised.rows.put_selectors.Goals as goal

pub loop-i-preserved : goal.loop-i-preserved
loop-i-preserved c =
    let selectors = c.args.selectors.now in
    let i = c.loop-i.i in
    let x : Selector = c.index-selectors-i.result in
    keeps_more c.args.offers.now c.loop-i.offers c.put_selector.new.offers (of_selector x) (flat_map of_selector (drop (i + 1) selectors)) (flat_map of_selector (drop i selectors)) (flat_map of_selector selectors)
    (at_drop_more (flat_map of_selector) selectors i x c.loop-i-test.true ∙ ap (λ (y : Selector). flat_map of_selector (y ∷ drop (i + 1) selectors)) (sym c.index-selectors-i.is)) c.loop-i.invariant c.in_ok-put_selector.ensures
