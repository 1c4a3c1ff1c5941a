-- What is gathered in lists.
use Rattle.std.specs.Prelude.{◌⊎◌, ◌↔◌, List, Contains}

-- the new list has what the old one has and what has the property, and nothing else
abbrev pub Gathers : {A : Type 0} → List A → List A → (A → Type 0) → Type 0
Gathers {A} old new P = (a : A) → Contains new a ↔ (Contains old a ⊎ P a)
