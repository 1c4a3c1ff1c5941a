-- Reading items one after the other, as a loop does, where reading may want memory.
use Rattle.mesh_tlv.proofs.Common.{common_steps, ◌≡◌, ℕ, suc, ◌+◌, ◌-◌, ◌≤◌, ◌<◌, List, [], ◌∷◌, ◌++◌, Ok, Err, refl, sym, ap, ◌∙◌, append_assoc, arith, eqb, true, ne_eqb, Refusal, ◌>>=◌, Reading, Fails, items_at}
use Rattle.mesh_atoms.specs.declared.refusal.DecodeFault.{DecodeFault}
use Rattle.mesh_atoms.specs.declared.refusal.DecodeFault.TheVariants as faults

-- what was read before, and what is still read
abbrev pub with_front : {A : Type 0} → List A → Reading (List A) → Reading (List A)
with_front front read = read >>= λ x. Ok (front ++ x.0, x.1)

pub none_before : {A : Type 0} (read : Reading (List A)) → with_front [] read ≡ read
none_before read = grind (arith, common_steps)

regroup : {A : Type 0} (front : List A) (p : A) (read : Reading (List A)) → with_front front (read >>= λ x. Ok (p ∷ x.0, x.1)) ≡ with_front (front ++ p ∷ []) read
regroup {A} front p (Ok x) = ap (λ (ps : List A). Ok (ps, x.1)) (simp append_assoc)
regroup front p (Err f) = refl

module _ {A : Type 0} (one : ℕ → ℕ → Reading A) (front : List A) (limit i at end : ℕ) (total : Reading (List A)) (so_far : with_front front (items_at one (limit - i) at end) ≡ total) where
  pub goes_on : i < limit → (at ≡ end → ⊥) → (p : A) (after : ℕ) → one at end ≡ Ok (p, after) → with_front (front ++ p ∷ []) (items_at one (limit - (i + 1)) after end) ≡ total
  unfolding items_at
  goes_on lt apart p after h =
      let k : limit - i ≡ suc (limit - (i + 1)) = omega arith in
      let step : with_front front (items_at one (limit - i) at end) ≡ with_front (front ++ p ∷ []) (items_at one (limit - (i + 1)) after end) = rw (k, ne_eqb at end apart, h) (regroup front p (items_at one (limit - (i + 1)) after end)) in
      sym step ∙ so_far

  ends : i < limit → (at ≡ end → ⊥) → (f : Refusal) → one at end ≡ Err f → total ≡ Err f
  unfolding items_at
  ends lt apart f h = grind (arith, common_steps, items_at)

  -- a fault of the next one is the fault of all
  pub fails : i < limit → (at ≡ end → ⊥) → (fault : DecodeFault) → Fails fault (one at end) → Fails fault total
  fails lt apart (faults.Memory e) h = tt
  fails lt apart (faults.Refused f) h = ends lt apart f h

  pub is_done : limit ≤ i → total ≡ Ok (front, at)
  unfolding items_at
  is_done le = grind (arith, common_steps, items_at)

  pub is_at_end : i < limit → eqb at end ≡ true → total ≡ Ok (front, at)
  unfolding items_at
  is_at_end lt e = grind (arith, common_steps, items_at)
