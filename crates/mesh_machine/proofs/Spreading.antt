-- A frame goes out on arcs, one after the other.
use Rattle.mesh_machine.proofs.Common.{◌≡◌, ℕ, ◌+◌, ◌<◌, List, [], ◌∷◌, ◌++◌, sym, ◌∙◌, ap, subst, length, get_or, drop, append_assoc, append-nil, add-one, suc, drop-cons, RadioArc, Scenario, Traffic, IsLost, Spreads, No_arcs, Loses, Carries, with_loss, with_delivery}

-- whatever comes of the arcs from a place on, the whole comes of all arcs
abbrev pub GoesOn : Scenario → ℕ → List ℕ → List (ℕ × RadioArc) → ℕ → List ℕ → Traffic → Traffic → Type 0
GoesOn s now frame ways at lost start here =
    (more : List ℕ) (new : Traffic) → Spreads s now frame (drop at ways) more here new → Spreads s now frame ways (lost ++ more) start new

module _ (s : Scenario) (now : ℕ) (frame : List ℕ) (ways : List (ℕ × RadioArc)) (at : ℕ) (lost : List ℕ) (start here : Traffic) (way : ℕ × RadioArc) where
  front : at < length ways → way ≡ get_or ways at way → drop at ways ≡ way ∷ drop (at + 1) ways
  front lt is = drop-cons ways at way lt ∙ ap (λ (w : ℕ × RadioArc). w ∷ drop (suc at) ways) (sym is) ∙ ap (λ (n : ℕ). way ∷ drop n ways) (sym (add-one at))

  pub on_lost : at < length ways → way ≡ get_or ways at way → IsLost s now here.draws way.1 → (there : Traffic) → there ≡ with_loss here →
      GoesOn s now frame ways at lost start here → GoesOn s now frame ways (at + 1) (lost ++ way.0 ∷ []) start there
  on_lost lt is loses there e goes more new rest =
      rw (append_assoc lost (way.0 ∷ []) more) (goes (way.0 ∷ more) new
      (rw (front lt is) (Loses loses (subst (λ (t : Traffic). Spreads s now frame (drop (at + 1) ways) more t new) e rest))))

  pub on_carried : at < length ways → way ≡ get_or ways at way → ¬ IsLost s now here.draws way.1 → (there : Traffic) → there ≡ with_delivery here (record { moment = now + way.1.delay; arc = way.0; frame = frame }) →
      GoesOn s now frame ways at lost start here → GoesOn s now frame ways (at + 1) lost start there
  on_carried lt is carries there e goes more new rest =
      goes more new (rw (front lt is) (Carries carries (subst (λ (t : Traffic). Spreads s now frame (drop (at + 1) ways) more t new) e rest)))

-- all arcs are done
pub all_spread : (s : Scenario) (now : ℕ) (frame : List ℕ) (ways : List (ℕ × RadioArc)) (at : ℕ) (lost : List ℕ) (start here : Traffic) → drop at ways ≡ [] →
    GoesOn s now frame ways at lost start here → Spreads s now frame ways lost start here
all_spread s now frame ways at lost start here none goes =
    subst (λ (l : List ℕ). Spreads s now frame ways l start here) (append-nil lost) (goes [] here (rw none No_arcs))

-- what a loop over arcs keeps
pub record Spreading (s : Scenario) (now : ℕ) (frame : List ℕ) (ways : List (ℕ × RadioArc)) (at : ℕ) (lost : List ℕ) (start here : Traffic) (seed : ℕ) : Type 0 where
  pub goes : GoesOn s now frame ways at lost start here
  pub seeded : seed ≡ s.seed
