-- Output in pieces: one piece, and what is put behind pieces that were put before.
use Rattle.mesh_io.proofs.Common.{arith, common_steps, ◌≡◌, ℕ, ◌≤◌, List, [], ◌∷◌, ◌++◌, take, Option, Some, None, Result, Err, refl, sym, subst, append_assoc, IsErrAnd, Appends, append-nil, concat-append, Rose}
use Rattle.std.specs.List.{concat}
use Rattle.mesh_io.specs.Pieces.{MakesOne, PutsAll, PutsFront, PutsPieces}
use Rattle.mesh_io.specs.declared.stop.Stop.{Stop}
use Rattle.mesh_io.specs.declared.stop.Stop.TheVariants as stop
use Rattle.mesh_io.proofs.Steps.{appends_more, rose_before}

-- ---- one piece

-- it was put by one write
pub one_put : {A : Type 0} (IsText : A → List ℕ → Type 0) (a b : Option (List ℕ)) (answer : A) (text : List ℕ) → IsText answer text → Appends a b text → PutsAll (MakesOne IsText) a b answer
one_put IsText a b answer text is stands = (text ∷ [], (text, is, refl), rw append-nil stands)

-- its write failed
pub one_cut : {A : Type 0} (IsText : A → List ℕ → Type 0) (a b : Option (List ℕ)) (f g : ℕ) (answer : A) (text : List ℕ) → IsText answer text → Rose f g → (n : ℕ) × Appends a b (take n text)
    → PutsFront (MakesOne IsText) a b f g
one_cut IsText a b f g answer text is rose (n, stands) = (rose, [], text, Some answer, (text, is, refl), n, stands)

-- ---- one thing behind another

-- pieces that were put, and then more of them
pub pieces_more : (a b c : Option (List ℕ)) (first second : List (List ℕ)) → Appends a b (concat first) → Appends b c (concat second) → Appends a c (concat (first ++ second))
pieces_more a b c first second h k = rw concat-append (appends_more a b c (concat first) (concat second) h k)

-- behind pieces that were put all of a second part was put
pub all_behind : {A B : Type 0} (Makes : List (List ℕ) → Option A → Type 0) (Makes' : List (List ℕ) → Option B → Type 0) (before : List (List ℕ)) (a b c : Option (List ℕ)) (x : A) (y : B)
    → Appends a b (concat before) → PutsAll Makes b c x → ((pieces : List (List ℕ)) → Makes pieces (Some x) → Makes' (before ++ pieces) (Some y)) → PutsAll Makes' a c y
all_behind Makes Makes' before a b c x y put (pieces, made, stands) joined = (before ++ pieces, joined pieces made, pieces_more a b c before pieces put stands)

-- behind pieces that were put a second part stopped
pub stops_behind : {A B : Type 0} (Makes : List (List ℕ) → Option A → Type 0) (Makes' : List (List ℕ) → Option B → Type 0) (to : Option A → Option B) (before : List (List ℕ)) (a b c : Option (List ℕ)) (f g h : ℕ) (e : Stop)
    → to None ≡ None → Appends a b (concat before) → f ≤ g → PutsPieces Makes b c g h (Err e) → ((pieces : List (List ℕ)) (x : Option A) → Makes pieces x → Makes' (before ++ pieces) (to x)) → PutsPieces Makes' a c f h (Err e)
stops_behind Makes Makes' to before a b c f g h stop.Write none put le (rose, pieces, piece, x, made, n, stands) joined = (
  rose_before f g h le rose,
  before ++ pieces,
  piece,
  to x,
  subst (λ (ps : List (List ℕ)). Makes' ps (to x)) (sym (append_assoc before pieces (piece ∷ []))) (joined (pieces ++ piece ∷ []) x made),
  n,
  rw (concat-append, append_assoc) (appends_more a b c (concat before) (concat pieces ++ take n piece) put stands),
)
stops_behind {B = B} Makes Makes' to before a b c f g h stop.Memory none put le (pieces, made, stands) joined = grind (arith, common_steps, pieces_more)

-- a part that stopped is a part of the whole
pub stops_in : {A B : Type 0} (Makes : List (List ℕ) → Option A → Type 0) (Makes' : List (List ℕ) → Option B → Type 0) (to : Option A → Option B) (a b : Option (List ℕ)) (f g : ℕ) (e : Stop)
    → to None ≡ None → PutsPieces Makes a b f g (Err e) → ((pieces : List (List ℕ)) (x : Option A) → Makes pieces x → Makes' pieces (to x)) → PutsPieces Makes' a b f g (Err e)
stops_in Makes Makes' to a b f g e none h9 part = grind (arith, common_steps)

-- an answer of this fault
pub answers_stop : {A : Type 0} (Makes : List (List ℕ) → Option A → Type 0) (a b : Option (List ℕ)) (f g : ℕ) (e : Stop) (r : Result A Stop) → IsErrAnd r (λ x. x ≡ e) → PutsPieces Makes a b f g (Err e) → PutsPieces Makes a b f g r
answers_stop Makes a b f g e r is h = grind (arith, common_steps)
