-- Reading one after the other, as a loop does.
use Rattle.mesh_addr.proofs.Common.{◌≡◌, ℕ, suc, ◌+◌, ◌-◌, ◌*◌, ◌≤◌, ◌<◌, List, [], ◌∷◌, ◌++◌, Result, Ok, Err, refl, sym, ◌∙◌, arith, slice_range, common_steps, append-nil, lt-ltb, le-ltb, suc-mul, Refusal, ◌>>=◌, refuse, RawAddr, ShapeFields, mid_of, addr_of, parts_end, own_at, addrs_at}

-- so many parts and one more
pub next_part : (i size : ℕ) → (i + 1) * size ≡ i * size + size
next_part i size = let e : i + 1 ≡ suc i = omega arith in rw e (suc-mul i size)

module _ (limit i place end size : ℕ) (total : Result ℕ Refusal) (lt : i < limit) (so_far : parts_end (limit - i) place end size ≡ total) where
  pub part_short : end - place < size → refuse place 1 ≡ total
  unfolding parts_end
  part_short short = grind (arith, common_steps, lt-ltb)

  pub part_passed : size ≤ end - place → parts_end (limit - (i + 1)) (place + size) end size ≡ total
  unfolding parts_end
  part_passed fits =
      let k : limit - i ≡ suc (limit - (i + 1)) = omega arith in
      let one : parts_end (limit - i) place end size ≡ parts_end (limit - (i + 1)) (place + size) end size = rw (k, le-ltb (end - place) size fits) refl in
      sym one ∙ so_far

pub parts_done : (limit i place end size : ℕ) (total : Result ℕ Refusal) → limit ≤ i → parts_end (limit - i) place end size ≡ total → Ok place ≡ total
unfolding parts_end
parts_done limit i place end size total le so_far = grind (arith, common_steps)

-- what was read before, and what is still read
abbrev pub with_front : List RawAddr → Result (List RawAddr × ℕ) Refusal → Result (List RawAddr × ℕ) Refusal
with_front front read = read >>= λ x. Ok (front ++ x.0, x.1)

regroup : (front : List RawAddr) (a : RawAddr) (read : Result (List RawAddr × ℕ) Refusal) → with_front front (read >>= λ x. Ok (a ∷ x.0, x.1)) ≡ with_front (front ++ a ∷ []) read
regroup front a read = grind (arith, common_steps)

module _ (frame : List ℕ) (shape : ShapeFields) (front : List RawAddr) (limit i mid at end : ℕ) (total : Result (List RawAddr × ℕ) Refusal) (so_far : with_front front (addrs_at (limit - i) frame shape mid at end) ≡ total) where
  pub goes_on : i < limit → (prefix after : ℕ) → own_at frame shape.prefix at end shape.width ≡ Ok (prefix, after) → with_front (front ++ addr_of shape (slice_range frame mid (mid + mid_of shape)) prefix ∷ []) (addrs_at (limit - (i + 1)) frame shape (mid + mid_of shape) after end) ≡ total
  unfolding addrs_at
  goes_on lt prefix after h =
      let k : limit - i ≡ suc (limit - (i + 1)) = omega arith in
      let a = addr_of shape (slice_range frame mid (mid + mid_of shape)) prefix in
      let rest = addrs_at (limit - (i + 1)) frame shape (mid + mid_of shape) after end in
      let one : with_front front (addrs_at (limit - i) frame shape mid at end) ≡ with_front (front ++ a ∷ []) rest = rw (k, h) (regroup front a rest) in
      sym one ∙ so_far

  pub ends : i < limit → (e : Refusal) → own_at frame shape.prefix at end shape.width ≡ Err e → total ≡ Err e
  unfolding addrs_at
  ends lt e h = grind (arith, common_steps)

  pub is_done : limit ≤ i → total ≡ Ok (front, at)
  unfolding addrs_at
  is_done le = grind (arith, common_steps, append-nil)
