-- A pass over a list that ends at the first element that settles the answer.
use Rattle.mesh_relay.proofs.Common.{◌≡◌, ℕ, ◌+◌, ◌<◌, Bool, true, false, ◌&&◌, ◌||◌, List, length, drop, get_or, sym, ap, subst, ◌∙◌, list_any, list_all, at_drop_more}
use Rattle.std.proofs.lemmas.List.Folds.{list_any_at, list_all_at}

module _ {X : Type 0} (p : X → Bool) (items xs : List X) (same : items ≡ xs) (i : ℕ) where
  module _ (d : X) (lt : i < length items) where
    within : i < length xs
    within = subst (λ (l : List X). i < length l) same lt

    at : (b : Bool) → p (get_or items i d) ≡ b → p (get_or xs i d) ≡ b
    at b h = ap (λ (l : List X). p (get_or l i d)) (sym same) ∙ h

    pub any_found : p (get_or items i d) ≡ true → true ≡ list_any p xs
    any_found h = sym (list_any_at p xs i d within (at true h))

    pub all_failed : p (get_or items i d) ≡ false → false ≡ list_all p xs
    all_failed h = sym (list_all_at p xs i d within (at false h))

    pub any_next : p (get_or items i d) ≡ false → list_any p (drop i xs) ≡ list_any p xs → list_any p (drop (i + 1) xs) ≡ list_any p xs
    any_next h rest = ap (λ (b : Bool). b || list_any p (drop (i + 1) xs)) (sym (at false h)) ∙ sym (at_drop_more (list_any p) xs i d within) ∙ rest

    pub all_next : p (get_or items i d) ≡ true → list_all p (drop i xs) ≡ list_all p xs → list_all p (drop (i + 1) xs) ≡ list_all p xs
    all_next h rest = ap (λ (b : Bool). b && list_all p (drop (i + 1) xs)) (sym (at true h)) ∙ sym (at_drop_more (list_all p) xs i d within) ∙ rest
