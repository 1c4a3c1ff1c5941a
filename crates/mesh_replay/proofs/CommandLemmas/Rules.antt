-- Lines of an input: the first line of a text, the rule, and how a text is cut in front of a line.
use Rattle.mesh_replay.proofs.Common.{common_steps, ◌≡◌, ℕ, ◌≤◌, ◌⊎◌, inl, inr, eqb, List, [], ◌∷◌, ◌++◌, length, refl, sym, ap, ◌∙◌, arith, drop, append_assoc, false, append-nil, cases_Bool, eqb-true, IsRuled, HaveNone, lines_of, begun, All-push, IsMarkLine, word_of, TellsNext, Reader, lines_from}
use Rattle.mesh_replay.specs.Command.Split.{BeginsWithRule}
use Rattle.mesh_replay.specs.declared.command.marks.Mark.{Mark}
use Rattle.mesh_replay.specs.declared.command.marks.Mark.TheVariants as mark

-- ---- The first line of a text, and what stands behind it.

-- the first line is the whole text, or a line feed stands behind it
pub data FirstLine (text line : List ℕ) (more : List (List ℕ)) : Type 0 where
  Is_last : text ≡ line → more ≡ [] → FirstLine text line more
  Is_followed : (behind : List ℕ) → text ≡ line ++ 10 ∷ behind → more ≡ lines_of behind → FirstLine text line more

-- the lines of a text with an octet more in front, by those of the text
begun_first : (octet : ℕ) (lines : List (List ℕ)) (line : List ℕ) (more : List (List ℕ)) → begun octet lines ≡ line ∷ more →
    ((lines ≡ []) × (line ≡ octet ∷ []) × (more ≡ [])) ⊎ ((rest : List ℕ) × (lines ≡ rest ∷ more) × (line ≡ octet ∷ rest))
begun_first octet lines line more is = grind (arith, common_steps)

pub no_lines : (text : List ℕ) → lines_of text ≡ [] → text ≡ []
no_lines [] is = refl
no_lines (octet ∷ text) is = grind (arith, common_steps, cases_Bool)

more_first : (octet : ℕ) (text rest : List ℕ) (line : List ℕ) (more : List (List ℕ)) → FirstLine text rest more → line ≡ octet ∷ rest → FirstLine (octet ∷ text) line more
more_first octet text rest line more (Is_last is none) same = Is_last (ap (λ (t : List ℕ). octet ∷ t) is ∙ sym same) none
more_first octet text rest line more (Is_followed behind is lines) same =
    Is_followed behind (ap (λ (t : List ℕ). octet ∷ t) is ∙ ap (λ (t : List ℕ). t ++ 10 ∷ behind) (sym same)) lines

one_more : (octet : ℕ) (text line : List ℕ) (more : List (List ℕ)) → ((rest : List ℕ) → lines_of text ≡ rest ∷ more → FirstLine text rest more) →
    ((lines_of text ≡ []) × (line ≡ octet ∷ []) × (more ≡ [])) ⊎ ((rest : List ℕ) × (lines_of text ≡ rest ∷ more) × (line ≡ octet ∷ rest)) →
    FirstLine (octet ∷ text) line more
one_more octet text line more on (inl (none, same, last)) = Is_last (ap (λ (t : List ℕ). octet ∷ t) (no_lines text none) ∙ sym same) last
one_more octet text line more on (inr (rest, lines, same)) = more_first octet text rest line more (on rest lines) same

pub first_line : (text line : List ℕ) (more : List (List ℕ)) → lines_of text ≡ line ∷ more → FirstLine text line more
first_line [] line more is = let bad : ⊥ = cc in absurd bad
first_line (octet ∷ text) line more is = elim (cases_Bool (eqb octet 10)) [
  | inl feed ↦
      let here : [] ∷ lines_of text ≡ line ∷ more = rw feed at is in
      let empty : line ≡ [] = cc in
      let rest : more ≡ lines_of text = cc in
      Is_followed text (ap (λ (o : ℕ). o ∷ text) (eqb-true octet 10 feed) ∙ ap (λ (l : List ℕ). l ++ 10 ∷ text) (sym empty)) rest
  | inr other ↦ one_more octet text line more (λ rest lines. first_line text rest more lines) (begun_first octet (lines_of text) line more (rw other at is))
]

-- ---- the line `---`

pub rule_alone : (text : List ℕ) → BeginsWithRule text → length text ≤ 3 → IsRuled text []
rule_alone text h1 short = grind (arith, common_steps, first_line)

-- ---- How a text is cut in front of a line.

-- the lines in front of a place, of which none is of the kind
pub record Passed (IsKind : List ℕ → Type 0) (text : List ℕ) (at : ℕ) : Type 0 where
  pub lines : List (List ℕ)
  pub between : lines_of text ≡ lines ++ lines_of (drop at text)
  pub none : HaveNone IsKind lines

-- one line more
pub pass_line : (IsKind : List ℕ → Type 0) (text line : List ℕ) (at at' : ℕ) → Passed IsKind text at →
    lines_of (drop at text) ≡ line ∷ lines_of (drop at' text) → (IsKind line → ⊥) → Passed IsKind text at'
pass_line IsKind text line at at' passed here other = record {
  lines = passed.lines ++ line ∷ [];
  between = passed.between ∙ (ap (λ (l : List (List ℕ)). passed.lines ++ l) here ∙ sym (append_assoc passed.lines (line ∷ []) (lines_of (drop at' text))));
  none = All-push (λ l. IsKind l → ⊥) passed.lines line passed.none other;
}

-- ---- Lines that end a part of an input.

-- such a line begins with its word
begins : (m : Mark) (line : List ℕ) → IsMarkLine m line → (rest : List ℕ) × (line ≡ word_of m ++ rest)
begins mark.Rule line is = ([], is ∙ sym (append-nil (word_of mark.Rule)))
begins mark.Report line (rest, is) = (rest, is)

-- no line that begins with the word is next
pub not_next : (m : Mark) (text : List ℕ) (reader : Reader) → reader.text ≡ word_of m →
    ((line rest : List ℕ) (lines : List (List ℕ)) → lines_from text reader.at ≡ line ∷ lines → line ≡ reader.text ++ rest → ⊥) →
    TellsNext m text reader false
not_next m text reader word none = record {
  is = λ yes. let bad : ⊥ = cc in absurd bad;
  other = λ no line more here kind. let (rest, same) = begins m line kind in
      none line rest more here (same ∙ ap (λ (w : List ℕ). w ++ rest) (sym word));
}
