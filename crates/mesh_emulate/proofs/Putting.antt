-- Pieces that are put on out, one part after the other.
use Rattle.mesh_emulate.proofs.Common.{arith, common_steps, ◌≡◌, ℕ, ◌≤◌, List, [], ◌++◌, Option, Some, None, Result, Ok, Err, refl, sym, OnOk, append-nil, Stop, MakesOne, PutsAll, PutsPieces, all_behind, stops_behind, stops_in, MakesBoth, In_first, In_next, MakesWanted}

-- the same pieces, by a weaker relation
pub puts_as : (Makes Makes' : List (List ℕ) → Option (Unit {0}) → Type 0) (a b : Option (List ℕ)) (f g : ℕ) (r : Result (Unit {0}) Stop) →
    ((pieces : List (List ℕ)) (x : Option (Unit {0})) → Makes pieces x → Makes' pieces x) → PutsPieces Makes a b f g r → PutsPieces Makes' a b f g r
puts_as Makes Makes' a b f g r turn h8 = grind (arith, common_steps, stops_in)

-- the text that was put into a buffer is such
one_made : {E : Type 0} (IsText : List ℕ → Type 0) (put : Result (Unit {0}) E) (text : List ℕ) → OnOk put (IsText text) → (pieces : List (List ℕ)) (x : Option (Unit {0})) →
    MakesOne (λ (u : Unit {0}) t. (put ≡ Ok tt) × (t ≡ text)) pieces x → MakesOne (λ (u : Unit {0}). IsText) pieces x
one_made IsText put text is pieces x h6 = grind (arith, common_steps)

pub puts_made : {E : Type 0} (IsText : List ℕ → Type 0) (put : Result (Unit {0}) E) (text : List ℕ) (a b : Option (List ℕ)) (f g : ℕ) (r : Result (Unit {0}) Stop) → OnOk put (IsText text) →
    PutsPieces (MakesOne (λ (u : Unit {0}) t. (put ≡ Ok tt) × (t ≡ text))) a b f g r → PutsPieces (MakesOne (λ (u : Unit {0}). IsText)) a b f g r
puts_made IsText put text a b f g r is left = grind (arith, common_steps, puts_as, one_made)

module _ (First Next : List (List ℕ) → Option (Unit {0}) → Type 0) (a b : Option (List ℕ)) (f g : ℕ) where
  -- the next part was put behind the first, which was put whole
  pub both_put : (c : Option (List ℕ)) (h : ℕ) (r : Result (Unit {0}) Stop) → PutsAll First a b tt → f ≤ g → PutsPieces Next b c g h r →
      PutsPieces (MakesBoth First Next) a c f h r
  both_put c h (Ok u) (first, made, stands) le left =
      all_behind Next (MakesBoth First Next) first a b c u u stands left (λ pieces is. In_next first pieces made is refl)
  both_put c h (Err e) (first, made, stands) le left =
      stops_behind Next (MakesBoth First Next) (λ x. x) first a b c f g h e refl stands le left (λ pieces x is. In_next first pieces made is refl)

  -- the answer of both parts by the first one's, where the next part has no piece yet
  abbrev both : Option (Unit {0}) → Option (Unit {0}) → Option (Unit {0})
  both start (Some u) = start
  both start None = None

  first_of_both : (start : Option (Unit {0})) → Next [] start → (pieces : List (List ℕ)) (x : Option (Unit {0})) → First pieces x →
      MakesBoth First Next pieces (both start x)
  first_of_both start starts pieces (Some u) is = In_next pieces [] is starts (sym (append-nil pieces))
  first_of_both start starts pieces None is = In_first is refl

  -- the first part stopped, and the next part has no piece yet
  pub both_stop : (e : Stop) → (start : Option (Unit {0})) × Next [] start → PutsPieces First a b f g (Err e) → PutsPieces (MakesBoth First Next) a b f g (Err e)
  both_stop e (start, starts) left = stops_in First (MakesBoth First Next) (both start) a b f g e refl left (first_of_both start starts)

-- no piece is there yet; or none is wanted
pub wanted_starts : {A : Type 0} (IsText : A → List ℕ → Type 0) (wanted : Option A) → (start : Option (Unit {0})) × MakesWanted IsText wanted [] start
wanted_starts IsText None = (Some tt, refl)
wanted_starts IsText (Some wanted) = (None, refl)

-- both parts are whole
pub both_made : (First Next : List (List ℕ) → Option (Unit {0}) → Type 0) (pieces : List (List ℕ)) → MakesBoth First Next pieces (Some tt) →
    (first : List (List ℕ)) × (next : List (List ℕ)) × First first (Some tt) × Next next (Some tt) × (pieces ≡ first ++ next)
both_made First Next pieces (In_next first next made is whole) = (first, next, made, is, whole)
both_made First Next pieces (In_first made is) = let bad : ⊥ = cc in absurd bad
