-- Steps of reading the words of a command line.
use Rattle.mesh_tool.proofs.Common.{arith, common_steps, ◌≡◌, ℕ, ◌⊎◌, inl, inr, List, Option, Some, None, Result, Ok, Bool, true, false, ◌&&◌, cond, refl, bytes_decides, only_if, Job, Parsing, is_word, or_at, and_parts}

pub or_at_ok : {A B : Type 0} (place : ℕ) (o : Option A) (f : A → Result B ℕ) (b : B) → or_at place o f ≡ Ok b → (next : A) × (o ≡ Some next) × (f next ≡ Ok b)
or_at_ok place (Some x) f b h = (x, refl, h)
or_at_ok place None f b h = let bad : ⊥ = cc in absurd bad

pub if_some : {A : Type 0} (b : Bool) (x : A) (rest : Option A) (y : A) → cond b (Some x) rest ≡ Some y → ((b ≡ true) × (y ≡ x)) ⊎ ((b ≡ false) × (rest ≡ Some y))
if_some b x rest y h = grind (arith, common_steps)

-- a word that may stand where a test holds
pub stands : (word name : List ℕ) (free : Bool) → (is_word word name && free) ≡ true → (word ≡ name) × (free ≡ true)
stands word name free h = let both = and_parts (is_word word name) free h in ((bytes_decides word name).0 both.0, both.1)

pub only_stands : (word name : List ℕ) (free : Bool) (next found : Parsing) → only_if (is_word word name && free) next ≡ Some found → (word ≡ name) × (free ≡ true) × (found ≡ next)
only_stands word name free next found h = elim (if_some (is_word word name && free) next None found h) [
  | inl (test, is) ↦ let s = stands word name free test in (s.0, s.1, is)
  | inr (test, none) ↦ let bad : ⊥ = cc in absurd bad
]

pub same_job : (a b : Job) → (let x : Result Job ℕ = Ok a in x) ≡ Ok b → a ≡ b
same_job a b h = cc
