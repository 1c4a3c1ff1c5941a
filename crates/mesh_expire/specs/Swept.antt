-- The moment before which no entry of a table expires.
use Rattle.std.specs.Prelude.{◌≡◌, ◌≤◌, ℕ, Bool, Some}
use Rattle.mesh_atoms.specs.Base.{Base, HasDistinctKeys, find}

-- no entry's moment is before that one
abbrev pub AreNotBefore : {K V : Type 0} → (K → K → Bool) → ℕ → Base K V → Type 0
AreNotBefore {K} {V} eq soonest base = (q : K) (entry : V × ℕ) → find eq base q ≡ Some entry → soonest ≤ entry.1

-- no entry's moment is before that one, and no key stands twice
pub record IsSwept {K V : Type 0} (eq : K → K → Bool) (soonest : ℕ) (base : Base K V) : Type 0 where
  pub not_before : AreNotBefore eq soonest base
  pub distinct : HasDistinctKeys eq base
