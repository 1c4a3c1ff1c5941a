use Rattle.mesh_paths.proofs.Common.{ℕ, List, Contains, length, ◌≡◌, subst, sym, ap, ◌∙◌, Pair, RouterSettings, IsRadioGraph, IsInside, IsParts}
use Rattle.mesh_paths.proofs.RadioLaw.{pairs_in, pairs_from, pair_inside, radio_graph_of}
use Rattle.mesh_paths.proofs.radio.radio_graph.Goals as goal

pub parts_of-requires : goal.parts_of-requires
parts_of-requires c =
    let made = pairs_from c.args.scenario.now c.as_slice-routers.result.now c.as_slice.result.now c.as_slice-routers.ensures c.as_slice.ensures in
    let is : c.as_slice-2.result.now ≡ pairs_in c.args.scenario.now = c.as_slice-2.ensures.value ∙ (c.in_ok-pairs.ensures ∙ made) in
    let count : length c.as_slice-routers.result.now ≡ length c.args.scenario.now.routers = ap (λ (rs : List RouterSettings). length rs) c.as_slice-routers.ensures in
    record { inside = λ pair there. subst (λ n. IsInside n pair) (sym count) (pair_inside c.args.scenario.now pair (subst (λ (ps : List Pair). Contains ps pair) is there)) }

pub returns : goal.returns
returns c =
    let made = pairs_from c.args.scenario.now c.as_slice-routers.result.now c.as_slice.result.now c.as_slice-routers.ensures c.as_slice.ensures in
    let is : c.in_ok-pairs.pairs.items ≡ pairs_in c.args.scenario.now = c.in_ok-pairs.ensures ∙ made in
    let read : c.as_slice-2.result.now ≡ pairs_in c.args.scenario.now = c.as_slice-2.ensures.value ∙ is in
    let count : length c.as_slice-routers.result.now ≡ length c.args.scenario.now.routers = ap (λ (rs : List RouterSettings). length rs) c.as_slice-routers.ensures in
    let parts : IsParts (pairs_in c.args.scenario.now) c.in_ok-parts.parts.items = subst (λ (ps : List Pair). IsParts ps c.in_ok-parts.parts.items) read c.in_ok-parts.ensures.parts in
    record {
      graph = subst (λ (xs : List ℕ). IsRadioGraph c.args.scenario.now (record { pairs = c.from_vec.result; parts = xs })) (sym c.from_vec-2.ensures)
          (radio_graph_of c.args.scenario.now c.in_ok-parts.parts.items (c.in_ok-parts.ensures.count ∙ count) parts
          (λ pair there. c.in_ok-parts.ensures.level pair (subst (λ (ps : List Pair). Contains ps pair) (sym read) there)) c.from_vec.result (c.from_vec.ensures ∙ is));
    }
