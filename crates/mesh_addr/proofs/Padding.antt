-- Octets laid one after the other where zeros stand.
use Rattle.mesh_addr.proofs.Common.{common_steps, ◌≡◌, ℕ, ◌+◌, ◌-◌, ◌≤◌, List, ◌++◌, length, take, drop, refl, sym, ap, subst, ◌∙◌, arith, length-append, append_assoc, replicate, slice_range, take_at, drop-replicate, take-append-drop, take-put_mid, drop-put_mid, range_split, padded}
use Rattle.std.proofs.Math.Seq.{drop-append-add, drop-append_seam}
use borrow.Rule.Slice.PartMut.{put_mid}

abbrev pub zeros : ℕ → List ℕ
zeros n = replicate n 0

pub laid : (front piece old new : List ℕ) (at : ℕ) → at ≡ length front → old ≡ padded front → at + length piece ≤ 16 → new ≡ piece → put_mid at (at + length piece - at) old new ≡ padded (front ++ piece)
laid front piece old new at at_is old_is fits is = grind (arith, common_steps, take-put_mid, drop-put_mid, drop-replicate)

-- the same over a part as long
pub relaid : (head gap tail mid old new : List ℕ) (at : ℕ) → at ≡ length head → length gap ≡ length mid → old ≡ padded (head ++ (gap ++ tail)) → new ≡ mid → put_mid at (at + length mid - at) old new ≡ padded (head ++ (mid ++ tail))
relaid head gap tail mid old new at at_is long old_is is =
    let n : ℕ = at + length mid in
    let k : at + length mid - at ≡ length mid = omega arith in
    let rest : List ℕ = zeros (16 - length (head ++ (gap ++ tail))) in
    let back : List ℕ = tail ++ rest in
    let whole : old ≡ head ++ (gap ++ back) = old_is ∙ append_assoc head (gap ++ tail) rest ∙ ap (λ (l : List ℕ). head ++ l) (append_assoc gap tail rest) in
    let size : length old ≡ length head + (length gap + length back) = ap length whole ∙ length-append head (gap ++ back) ∙ ap (λ (m : ℕ). length head + m) (length-append gap back) in
    let put : List ℕ = put_mid at (length mid) old mid in
    let low : take n put ≡ head ++ mid = take-put_mid at (length mid) old mid n refl (omega arith) ∙ ap (λ (l : List ℕ). l ++ mid) (ap (take at) whole ∙ take_at head (gap ++ back) at (sym at_is)) in
    let place : n ≡ length head + length gap = omega arith in
    let high : drop n put ≡ back =
    drop-put_mid at (length mid) old mid n (omega arith) (omega arith) refl ∙ ap (drop n) whole ∙ ap (λ (m : ℕ). drop m (head ++ (gap ++ back))) place
    ∙ drop-append-add head (gap ++ back) (length gap) ∙ drop-append_seam gap back in
    let same : length (head ++ (gap ++ tail)) ≡ length (head ++ (mid ++ tail)) = omega (arith, long, length-append head (gap ++ tail), length-append gap tail, length-append head (mid ++ tail), length-append mid tail) in
    rw (is, k) (
    sym (take-append-drop n put) ∙ ap (λ (l : List ℕ). l ++ drop n put) low ∙ ap (λ (l : List ℕ). (head ++ mid) ++ l) high
    ∙ sym (append_assoc (head ++ mid) tail rest) ∙ ap (λ (l : List ℕ). l ++ rest) (append_assoc head mid tail)
    ∙ ap (λ (m : ℕ). (head ++ (mid ++ tail)) ++ zeros (16 - m)) same)

-- the octets between two places, cut at a third
pub split_at : (s : List ℕ) (at mid end : ℕ) → at ≤ mid → mid ≤ end → end ≤ length s → slice_range s at end ≡ slice_range s at mid ++ slice_range s mid end
split_at s at mid end le le' fits =
    let e : at + (mid - at) ≡ mid = omega arith in
    subst (λ (n : ℕ). slice_range s at end ≡ slice_range s at n ++ slice_range s n end) e (range_split s at (mid - at) end (omega arith) fits)
