use Rattle.mesh_paths.proofs.Common.{ℕ, List, ◌≡◌, ◌∙◌, length, length-take, length-append, ap, sym, subst, arith, range_with_len, length-range_with_len, IsInside, IsParts}
use Rattle.mesh_paths.proofs.RadioLaw.{start_parts}
use Rattle.mesh_paths.proofs.radio.parts_of.Goals as goal

pub level_all-requires-clause-inside : goal.level_all-requires-clause-inside
level_all-requires-clause-inside c =
    let is : c.deref_mut.result.now ≡ range_with_len 0 c.args.count = c.deref_mut.ensures.value ∙ c.in_ok-parts.ensures in
    let count : c.args.count ≡ length c.deref_mut.result.now = sym (ap (λ (xs : List ℕ). length xs) is ∙ length-range_with_len 0 c.args.count) in
    λ pair there. subst (λ (n : ℕ). IsInside n pair) count (c.requires.inside pair there)

pub level_all-requires-clause-parts : goal.level_all-requires-clause-parts
level_all-requires-clause-parts c =
    let is : c.deref_mut.result.now ≡ range_with_len 0 c.args.count = c.deref_mut.ensures.value ∙ c.in_ok-parts.ensures in
    subst (λ (xs : List ℕ). IsParts c.args.pairs.now xs) (sym is) (start_parts c.args.pairs.now c.args.count)

pub returns-clause-count : goal.returns-clause-count
returns-clause-count c =
    let is : length c.in_ok-parts.parts.items ≡ c.args.count = ap (λ (xs : List ℕ). length xs) c.in_ok-parts.ensures ∙ length-range_with_len 0 c.args.count in
    let kept : length c.level_all.new.parts ≡ length c.deref_mut.result.now = c.level_all.auto.parts in
    let value : length c.deref_mut.result.now ≡ length c.in_ok-parts.parts.items = ap (λ (xs : List ℕ). length xs) c.deref_mut.ensures.value in
    simp (length-take, length-append) (omega arith)
