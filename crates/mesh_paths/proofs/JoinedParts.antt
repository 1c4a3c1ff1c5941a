-- Two routers are joined exactly where the radio graph has them in one part.
use Rattle.mesh_paths.proofs.Common.{◌≡◌, ◌≢◌, ℕ, ◌≤◌, ◌<◌, refl, sym, subst, arith, Some, length, slice_get, slice_index, ◌↔◌, IsTrue, slice_get_within, slice_get-get_or, Scenario, Joined, Itself, By, IsRadioGraph, Decides-eqb, Decides-ltb, Decides-and, Decides-not}
use Rattle.mesh_atoms.specs.declared.graphs.RadioGraph.{RadioGraph}
use Rattle.mesh_paths.proofs.RadioLaw.{joined_back, joined_trans}
use Rattle.mesh_paths.proofs.Scenarios.{sound_scenario}
use Rattle.mesh_paths.specs.Joined.{is_joined}

module _ (s : Scenario) (g : RadioGraph) (graph : IsRadioGraph s g) where
  part_at : (x : ℕ) → x < length g.parts → slice_get g.parts x ≡ Some (slice_index g.parts x)
  part_at x lt = slice_get-get_or g.parts x 0 lt

  -- what is joined with another is a router
  within_parts : (x w : ℕ) → Joined s x w → w ≢ x → w < length g.parts
  within_parts x w Itself other = absurd (other refl)
  within_parts x w (By {v = v} chain (i, j, there, back, joins)) other =
      let (r, at) = ((sound_scenario s).ends v i w j there joins.out).2 in
      let lt : w < length s.routers = slice_get_within s.routers w r at in
      let same : length g.parts ≡ length s.routers = graph.routers in
      omega arith

  same_part : (x w : ℕ) → Joined s x w → x < length g.parts → w < length g.parts → slice_index g.parts x ≤ slice_index g.parts w
  same_part x w j in_x in_w =
      let (near, _) = graph.parts w (slice_index g.parts w) (part_at w in_w) in
      (graph.parts x (slice_index g.parts x) (part_at x in_x)).1 (slice_index g.parts w) (joined_trans s x w _ j near)

  pub joined_test : (x w : ℕ) → IsTrue (is_joined g.parts x w) ↔ ((w ≢ x) × Joined s x w)
  joined_test x w =
      let d = Decides-and _ _ (Decides-not _ (Decides-eqb w x)) (Decides-and _ _ (Decides-ltb x (length g.parts)) (Decides-and _ _ (Decides-ltb w (length g.parts)) (Decides-eqb (slice_index g.parts x) (slice_index g.parts w)))) in (
        λ e.
            let (other, (in_x, (in_w, same))) = d.0 e in
            let from_x = (graph.parts x (slice_index g.parts x) (part_at x in_x)).0 in
            let from_w = (graph.parts w (slice_index g.parts w) (part_at w in_w)).0 in
            (other, joined_trans s x _ w from_x (joined_back s w _ (subst (Joined s w) (sym same) from_w))),
        λ both.
            let (other, j) = both in
            let back : x ≢ w = λ e. other (sym e) in
            let in_w : w < length g.parts = within_parts x w j other in
            let in_x : x < length g.parts = within_parts w x (joined_back s x w j) back in
            let least : slice_index g.parts x ≤ slice_index g.parts w = same_part x w j in_x in_w in
            let most : slice_index g.parts w ≤ slice_index g.parts x = same_part w x (joined_back s x w j) in_w in_x in
            let same : slice_index g.parts x ≡ slice_index g.parts w = omega arith in
            d.1 (other, (in_x, (in_w, same))),
      )
