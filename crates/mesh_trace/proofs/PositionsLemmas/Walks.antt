-- Texts whose lines lead from a position to a position.
use Rattle.mesh_trace.proofs.Common.{◌≡◌, ℕ, List, [], ◌∷◌, ◌++◌, refl, sym, ap, ◌∙◌, subst, append_assoc, lines_of, IsLineOf, TracePosition, LineLeads, LeadsBy}
use Rattle.mesh_trace.proofs.PositionsLemmas.TextLines.{OneLine, lines_more}

pub leads_on : (p q r : TracePosition) (xs ys : List (List ℕ)) → LeadsBy p xs q → LeadsBy q ys r → LeadsBy p (xs ++ ys) r
leads_on p q r [] ys same more = subst (λ (m : TracePosition). LeadsBy m ys r) same more
leads_on p q r (x ∷ xs) ys (mid, one, others) more = (mid, one, leads_on mid q r xs ys others more)

-- the lines of the text, whatever follows it, lead from the one to the other
pub record Walks (p q : TracePosition) (text : List ℕ) : Type 0 where
  pub lines : List (List ℕ)
  pub leads : LeadsBy p lines q
  pub are : (rest : List ℕ) → lines_of (text ++ rest) ≡ lines ++ lines_of rest

pub walks_nowhere : (p : TracePosition) → Walks p p []
walks_nowhere p = record { lines = []; leads = refl; are = λ rest. refl }

pub walks_one : (p q : TracePosition) (text : List ℕ) → OneLine text → ((line : List ℕ) → IsLineOf line text → LineLeads p line q) → Walks p q text
walks_one p q text one leads = record {
  lines = one.inside ∷ [];
  leads = (q, leads one.inside one.whole, refl);
  are = λ rest. lines_more text rest one;
}

pub walks_on : (p q r : TracePosition) (a b : List ℕ) → Walks p q a → Walks q r b → Walks p r (a ++ b)
walks_on p q r a b one more = record {
  lines = one.lines ++ more.lines;
  leads = leads_on p q r one.lines more.lines one.leads more.leads;
  are = λ rest.
      ap lines_of (append_assoc a b rest) ∙ (one.are (b ++ rest) ∙ (ap (λ (l : List (List ℕ)). one.lines ++ l) (more.are rest) ∙ sym (append_assoc one.lines more.lines (lines_of rest))));
}

-- the same by equal positions and texts
pub walks_as : (p q q' : TracePosition) (a b : List ℕ) → q ≡ q' → a ≡ b → Walks p q a → Walks p q' b
walks_as p q q' a b same text walks = subst (λ (t : List ℕ). Walks p q' t) text (subst (λ (r : TracePosition). Walks p r a) same walks)
