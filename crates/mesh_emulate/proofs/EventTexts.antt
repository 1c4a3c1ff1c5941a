-- The pieces of an emulation, joined.
use Rattle.mesh_emulate.proofs.Common.{arith, common_steps, ◌≡◌, ℕ, Bool, List, [], ◌∷◌, ◌++◌, Option, refl, ap, subst, concat, concat-append, NetEvent, Scenario, NetState, NetStep, IsTraced, Traces, WholeRun, IsTrace, IsRunText, TellsWanted, piece_if, AreEventTexts, TellsEvents, Emulation, Wants}

-- the texts with one event's text more
pub texts_more : (old : NetState) (events : List NetEvent) (mid new : NetState) (pieces : List (List ℕ)) (event : NetEvent) (last : List ℕ) →
    AreEventTexts old events mid pieces → NetStep mid event new → IsTraced new event last → AreEventTexts old (events ++ event ∷ []) new (pieces ++ last ∷ [])
texts_more old [] mid new pieces event last (same, none) step is =
    (new, subst (λ (m : NetState). NetStep m event new) same step, last, [], is, (refl, refl), ap (λ (l : List (List ℕ)). l ++ last ∷ []) none)
texts_more old (e ∷ es) mid new pieces event last (m, s, text, rest, it, more, whole) step is =
    (m, s, text, rest ++ last ∷ [], it, texts_more m es mid new rest event last more step is, ap (λ (l : List (List ℕ)). l ++ last ∷ []) whole)

-- the joined texts are the trace
pub joined_trace : (old : NetState) (events : List NetEvent) (new : NetState) (pieces : List (List ℕ)) → AreEventTexts old events new pieces →
    Traces old events new (concat pieces)
joined_trace old [] new pieces (same, none) = (same, ap concat none)
joined_trace old (event ∷ events) new pieces (mid, step, text, rest, is, more, whole) =
    (mid, step, text, concat rest, is, joined_trace mid events new rest more, ap concat whole)

is_trace : (s : Scenario) (trace : Bool) (run : WholeRun s) (pieces : List (List ℕ)) → TellsEvents trace run.opening run.events run.final pieces →
    IsTrace trace run (concat pieces)
is_trace s trace run pieces told = grind (arith, common_steps, joined_trace)

piece_text : {A : Type 0} (IsText : A → List ℕ → Type 0) (wanted : Option A) (text : List ℕ) → TellsWanted IsText wanted text → concat (piece_if wanted text) ≡ text
piece_text IsText wanted text told = grind (arith, common_steps)

module _ (input : List ℕ) (wants : Wants) (e : Emulation input wants) where
  -- the text of the run, and then the trip and the probe
  abbrev pub run_text : List ℕ
  run_text = concat e.events ++ e.summary

  pub is_run_text : IsRunText e.scenario wants.trace e.run run_text
  is_run_text = grind (arith, common_steps, is_trace)

  pub text_is : e.text ≡ run_text ++ (e.trip ++ e.probe)
  text_is = grind (arith, common_steps, concat-append, piece_text)
