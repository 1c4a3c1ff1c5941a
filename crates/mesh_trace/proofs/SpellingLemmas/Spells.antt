-- Which place is behind what was read, and what isn't spelled in the fewest octets.
use Rattle.mesh_trace.proofs.Common.{◌≡◌, ℕ, zero, suc, ◌<◌, ◌≤◌, sym, ap, subst, refl, arith, Result, Ok, Err, Fails}
use Rattle.mesh_atoms.specs.declared.refusal.Refusal.{Refusal}
use Rattle.mesh_atoms.specs.declared.refusal.DecodeFault.{DecodeFault}
use Rattle.mesh_atoms.specs.declared.refusal.DecodeFault.TheVariants.{Refused}

-- the second of a pair that was given
pub given_place : {X E : Type 0} (tlvs found : X) (place next : ℕ) → ◌≡◌ {A = Result (X × ℕ) E} (Ok (tlvs, place)) (Ok (found, next)) → next ≡ place
given_place {X} {E} tlvs found place next same = sym (ap (λ (r : Result (X × ℕ) E). of r) same) where
  of : Result (X × ℕ) E → ℕ
  of (Ok p) = p.1
  of (Err e) = 0

-- a refusal isn't what was given
pub given_no_refusal : {Y : Type 0} (read : Y) (e : DecodeFault) (f : Refusal) → e ≡ Refused f → Fails e (Ok read) → ⊥
given_no_refusal {Y} read e f is fails = no_error read f (subst (λ (x : DecodeFault). Fails x (Ok read)) is fails) where
  of : Result Y Refusal → ℕ
  of (Ok p) = 0
  of (Err r) = 1

  no_error : (y : Y) (r : Refusal) → ◌≡◌ {A = Result Y Refusal} (Ok y) (Err r) → ⊥
  no_error y r same = absurd (let h : 0 ≡ 1 = ap of same in omega (arith, h))

-- at most, and not the same
pub strictly : (a b : ℕ) → a ≤ b → (b ≡ a → ⊥) → a < b
strictly zero zero le other = absurd (other refl)
strictly zero (suc b) le other = omega arith
strictly (suc a) zero le other = absurd (omega (arith, le))
strictly (suc a) (suc b) le other = let h = strictly a b (omega (arith, le)) (λ e. other (ap suc e)) in omega (arith, h)
