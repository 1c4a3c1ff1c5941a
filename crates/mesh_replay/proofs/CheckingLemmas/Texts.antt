-- The next line is taken, where it is what is looked for.
use Rattle.mesh_replay.proofs.Common.{common_steps, ◌≡◌, ℕ, ◌+◌, List, ◌∷◌, ◌++◌, sym, ◌∙◌, ap, subst, append_assoc, arith, codes, Bool, false, Option, Some, None, ◌↔◌, IsTrue, IfSome, false≢true, append_cancel_left, append_cancel_right, heads_equal, tails_equal, Reader, IsLineOf, lines_from, IsReaderOf, IsRest, TakesLine, IsNextText, IsStill, ReadsNext, ReadsText, TakesNext, TookText}
use Rattle.std.specs.Borrow.{Bor}

-- ---- a text of which the front alone is looked for

module _ {A : Type 0} (body : A → List ℕ) {text : A → List ℕ} (front : List ℕ) (parts : (a : A) → text a ≡ front ++ (body a ++ codes "\n")) {trace : List ℕ} {old mid : Reader}
    (reading : IsReaderOf trace old) (still : IsStill old mid) (looks : mid.text ≡ front) where
  reading_still : IsReaderOf trace mid
  reading_still = grind (arith, common_steps)

  line_to : (a : A) → (front ++ body a) ++ codes "\n" ≡ text a
  line_to a = append_assoc front (body a) (codes "\n") ∙ sym (parts a)

  line_from : (a : A) (line : List ℕ) → IsLineOf line (text a) → line ≡ front ++ body a
  line_from a line is = append_cancel_right line (front ++ body a) (codes "\n") (is ∙ sym (line_to a))

  -- the next line begins otherwise
  pub reads_none : {Valid : A → Type 0} → IsRest trace mid None → ReadsNext Valid text trace old mid None
  reads_none none = record {
    reading = reading_still;
    still = still;
    some = tt;
    only = λ a valid next. absurd (none next.line (body a) next.lines (ap (lines_from trace) still.place ∙ next.next)
        (line_from a next.line next.is ∙ ap (λ (l : List ℕ). l ++ body a) (sym looks)));
  }

  -- this is behind the front
  pub reads_some : {Valid : A → Type 0} (rest : Bor (List ℕ)) (told : Option A) → IsRest trace mid (Some rest) → ReadsText Valid body rest.now told → ReadsNext Valid text trace old mid told
  reads_some rest told (lines, there) reads = record {
    reading = reading_still;
    still = still;
    some = by_cases told reads.some;
    only = λ a valid next. (let here : next.line ≡ mid.text ++ rest.now = heads_equal next.line (mid.text ++ rest.now) next.lines lines (sym next.next ∙ (ap (lines_from trace) (sym still.place) ∙ there)) in
        reads.only a valid (append_cancel_left front (body a) rest.now (sym (line_from a next.line next.is) ∙ (here ∙ ap (λ (l : List ℕ). l ++ rest.now) looks))));
  } where
    by_cases : (o : Option A) → IfSome o (λ a. body a ≡ rest.now) → IfSome o (λ a. IsNextText trace old (text a))
    by_cases None is = tt
    by_cases (Some a) is = record {
      line = front ++ body a;
      lines = lines;
      next = ap (lines_from trace) (sym still.place) ∙ (there ∙ ap (λ (l : List ℕ). l ∷ lines) (ap (λ (l : List ℕ). l ++ rest.now) looks ∙ ap (λ (l : List ℕ). front ++ l) (sym is)));
      is = line_to a;
    }

-- ---- and then what was read is looked at

module _ {A : Type 0} {Valid IsSo : A → Type 0} {text : A → List ℕ} {trace : List ℕ} {old mid : Reader} {told : Option A} (valid : (a : A) → IsSo a → Valid a) (reads : ReadsNext Valid text trace old mid told) where
  -- nothing was read
  pub takes_none : told ≡ None → TakesNext IsSo text trace old mid None
  takes_none is = grind (arith, common_steps)

  module _ (a : A) (is : told ≡ Some a) where
    -- it isn't so
    pub takes_not : {fits : Bool} → IsTrue fits ↔ IsSo a → fits ≡ false → TakesNext IsSo text trace old mid None
    takes_not decides bad = record {
      reading = reads.reading;
      takes = tt;
      still = λ none. reads.still;
      none = λ none b so next. (let same : b ≡ a = (let some = reads.only b (valid b so) next in cc) in
          false≢true (sym bad ∙ decides.1 (subst IsSo same so)));
    }

    -- it is so
    pub takes_one : {new : Reader} → IsSo a → (line : List ℕ) → TakesLine trace mid new line → IsReaderOf trace new → TakesNext IsSo text trace old new (Some a)
    takes_one {new} so line takes reading =
        let next : IsNextText trace old (text a) = subst (λ (o : Option A). IfSome o (λ b. IsNextText trace old (text b))) is reads.some in
        record {
          reading = reading;
          takes = (
            so,
            record {
              line = next.line;
              lines = next.next ∙ ap (λ (l : List (List ℕ)). next.line ∷ l)
                  (tails_equal next.line line next.lines (lines_from trace new.at) (sym next.next ∙ (ap (lines_from trace) (sym reads.still.place) ∙ takes.lines)));
              taken = takes.taken ∙ ap (λ (n : ℕ). n + 1) reads.still.taken;
              is = next.is;
            },
          );
          still = λ none. absurd cc;
          none = λ none. absurd cc;
        }

-- what was taken
pub takes_at : {A : Type 0} {IsSo : A → Type 0} {text : A → List ℕ} {trace : List ℕ} {old new : Reader} {told : Option A} {a : A} → TakesNext IsSo text trace old new told → told ≡ Some a → IsSo a × TookText trace old new (text a)
takes_at {IsSo = IsSo} {text = text} {trace = trace} {old = old} {new = new} takes is = subst (λ o. IfSome o (λ a. IsSo a × TookText trace old new (text a))) is takes.takes

-- the same from an earlier reader
pub takes_later : {A : Type 0} {IsSo : A → Type 0} {text : A → List ℕ} {trace : List ℕ} {old mid new : Reader} {told : Option A} → IsStill old mid → TakesNext IsSo text trace mid new told →
    TakesNext IsSo text trace old new told
takes_later {A} {IsSo} {text} {trace} {old} {mid} {new} {told} same takes = record {
  reading = takes.reading;
  takes = by_cases told takes.takes;
  still = λ none. record { place = (takes.still none).place ∙ same.place; taken = (takes.still none).taken ∙ same.taken };
  none = λ none a so next. takes.none none a so (record { line = next.line; lines = next.lines; next = ap (lines_from trace) same.place ∙ next.next; is = next.is });
} where
  by_cases : (o : Option A) → IfSome o (λ a. IsSo a × TookText trace mid new (text a)) → IfSome o (λ a. IsSo a × TookText trace old new (text a))
  by_cases None is = tt
  by_cases (Some a) (so, took) = (
    so,
    record {
      line = took.line;
      lines = ap (lines_from trace) (sym same.place) ∙ took.lines;
      taken = took.taken ∙ ap (λ (n : ℕ). n + 1) same.taken;
      is = took.is;
    },
  )

-- by what follows from it
pub takes_so : {A : Type 0} {IsSo : A → Type 0} {text : A → List ℕ} {trace : List ℕ} {old new : Reader} {told : Option A} (Other : A → Type 0) (a : A) → TakesNext IsSo text trace old new told → told ≡ Some a → (IsSo a → Other a) →
    TakesNext Other text trace old new (Some a)
takes_so Other a takes is other = grind (arith, common_steps, takes_at)

-- ---- the text of one thing, if any, is looked for
