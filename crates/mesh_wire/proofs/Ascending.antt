-- Lists in one order that have the same elements are the same.
use Rattle.mesh_wire.proofs.Common.{◌≡◌, inl, inr, List, [], ◌∷◌, refl, sym, subst, ◌∙◌, Contains, AllPairs, contains_head as at_head, contains_tail as in_tail, contains_cases, contains_none as none_in, all_pairs_tail, all_pairs_head}

-- of two ascending lists, what is in a tail is in the other's
in_other_tail : {X : Type 0} (R : X → X → Type 0) → ((x y : X) → R x y → R y x → ⊥) → (x : X) (xs : List X) (y : X) (ys : List X) → AllPairs R (x ∷ xs) → x ≡ y →
    ((z : X) → Contains (x ∷ xs) z → Contains (y ∷ ys) z) → (z : X) → Contains xs z → Contains ys z
in_other_tail R one_way x xs y ys pairs same there z has = elim (contains_cases y ys z (there z (in_tail x xs z has))) [
  | inl e ↦
      let before : R x z = all_pairs_head R x xs pairs z has in
      let itself : R x x = subst (R x) (sym (same ∙ e)) before in
      absurd (one_way x x itself itself)
  | inr more ↦ more
]

pub same_ascending : {X : Type 0} (R : X → X → Type 0) → ((x y : X) → R x y → R y x → ⊥) → (xs ys : List X) → AllPairs R xs → AllPairs R ys →
    ((z : X) → Contains xs z → Contains ys z) → ((z : X) → Contains ys z → Contains xs z) → xs ≡ ys
same_ascending R one_way [] [] p q there back = refl
same_ascending R one_way [] (y ∷ ys) p q there back = absurd (none_in y (back y (at_head y ys)))
same_ascending R one_way (x ∷ xs) [] p q there back = absurd (none_in x (there x (at_head x xs)))
same_ascending R one_way (x ∷ xs) (y ∷ ys) p q there back =
    let same : x ≡ y = elim (contains_cases y ys x (there x (at_head x xs))) [
      | inl e ↦ sym e
      | inr later ↦ elim (contains_cases x xs y (back y (at_head y ys))) [
        | inl e ↦ e
        | inr after ↦ absurd (one_way x y (all_pairs_head R x xs p y after) (all_pairs_head R y ys q x later))
      ]
    ] in
    let rest : xs ≡ ys = same_ascending R one_way xs ys (all_pairs_tail R x xs p) (all_pairs_tail R y ys q) (in_other_tail R one_way x xs y ys p same there) (in_other_tail R one_way y ys x xs q (sym same) back) in
    cc
