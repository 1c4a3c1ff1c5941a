-- The least of a list, and lists in order.
use Rattle.mesh_routes.proofs.Common.{◌≡◌, ◌⊎◌, inl, inr, sym, subst, arith, List, [], ◌∷◌, Contains, AllPairs, all_pairs_tail, contains_cases, contains_tail as in_tail, contains_none as none_of, contains_head as here, all_pairs_cons, all_pairs_head}

-- The least of a list in an order

module _ {X : Type 0} (IsUpto : X → X → Type 0) (total : (a b : X) → IsUpto a b ⊎ IsUpto b a)
    (further : (a b c : X) → IsUpto a b → IsUpto b c → IsUpto a c) where
  abbrev pub IsLeastOf : List X → X → Type 0
  IsLeastOf xs w = Contains xs w × ((v : X) → Contains xs v → IsUpto w v)

  itself : (a : X) → IsUpto a a
  itself a = elim (total a a) [ inl h ↦ h | inr h ↦ h ]

  least_from : (y : X) (ys : List X) → (w : X) × IsLeastOf (y ∷ ys) w
  least_from y [] = (
    y,
    (
      here y [],
      λ v has. elim (contains_cases y [] v has) [
        | inl same ↦ subst (IsUpto y) same (itself y)
        | inr later ↦ absurd (none_of v later)
      ],
    ),
  )
  least_from y (z ∷ zs) =
      let (w, (stands, least)) = least_from z zs in
      elim (total y w) [
        | inl before ↦ (
          y,
          (
            here y (z ∷ zs),
            λ v has. elim (contains_cases y (z ∷ zs) v has) [
              | inl same ↦ subst (IsUpto y) same (itself y)
              | inr later ↦ further y w v before (least v later)
            ],
          ),
        )
        | inr after ↦ (
          w,
          (
            in_tail y (z ∷ zs) w stands,
            λ v has. elim (contains_cases y (z ∷ zs) v has) [
              | inl same ↦ subst (IsUpto w) same after
              | inr later ↦ least v later
            ],
          ),
        )
      ]

  pub least_of_list : (xs : List X) (x : X) → Contains xs x → (w : X) × IsLeastOf xs w
  least_of_list [] x has = absurd (none_of x has)
  least_of_list (y ∷ ys) x has = least_from y ys

-- Lists in order

-- Where each element of a list in order gives another element or is left out, those that are given are in order
module _ {A B N : Type 0} (of : A → N) (to : B → N) (IsBefore : N → N → Type 0) (Right : B → Type 0) (IsLeftOut : A → Type 0) where
  pub record Gives (xs : List A) (ys : List B) : Type 0 where
    pub each : (y : B) → Contains ys y → Right y × ((x : A) × Contains xs x × (to y ≡ of x))
    pub all : (x : A) → Contains xs x → IsLeftOut x ⊎ ((y : B) × Contains ys y × (to y ≡ of x))
    pub ordered : AllPairs (λ (y z : B). IsBefore (to y) (to z)) ys

  abbrev pub GivesOne : A → Type 0
  GivesOne x = IsLeftOut x ⊎ ((y : B) × Right y × (to y ≡ of x))

  gives_none : (x : A) (xs : List A) (ys : List B) → IsLeftOut x → Gives xs ys → Gives (x ∷ xs) ys
  gives_none x xs ys none are = record {
    each = λ y has. let (right, (z, within, at)) = are.each y has in (right, (z, in_tail x xs z within, at));
    all = λ z has. elim (contains_cases x xs z has) [ inl same ↦ inl (subst IsLeftOut same none) | inr later ↦ are.all z later ];
    ordered = are.ordered;
  }

  gives_more : (x : A) (xs : List A) (ys : List B) (y : B) → Right y → to y ≡ of x →
      AllPairs (λ (a b : A). IsBefore (of a) (of b)) (x ∷ xs) → Gives xs ys → Gives (x ∷ xs) (y ∷ ys)
  gives_more x xs ys y right at pairs are = record {
    each = λ z has. elim (contains_cases y ys z has) [
      | inl same ↦ (subst Right same right, (x, here x xs, subst (λ (b : B). to b ≡ of x) same at))
      | inr later ↦ let (fine, (a, within, is)) = are.each z later in (fine, (a, in_tail x xs a within, is))
    ];
    all = λ a has. elim (contains_cases x xs a has) [
      | inl same ↦ inr (y, here y ys, subst (λ (b : A). to y ≡ of b) same at)
      | inr later ↦ elim (are.all a later) [ inl none ↦ inl none | inr (z, within, is) ↦ inr (z, in_tail y ys z within, is) ]
    ];
    ordered = all_pairs_cons (λ (a b : B). IsBefore (to a) (to b)) y ys
        (λ z has.
        let (_, (a, within, is)) = are.each z has in
        let before : IsBefore (of x) (of a) = all_pairs_head (λ (a b : A). IsBefore (of a) (of b)) x xs pairs a within in
        subst (λ (n : N). IsBefore n (to z)) (sym at) (subst (λ (n : N). IsBefore (of x) n) (sym is) before))
        are.ordered;
  }

  pub give_each : (xs : List A) → AllPairs (λ (a b : A). IsBefore (of a) (of b)) xs → ((x : A) → Contains xs x → GivesOne x) →
      (ys : List B) × Gives xs ys
  give_each [] pairs give = (
    [],
    record {
      each = λ y has. absurd (none_of y has);
      all = λ x has. absurd (none_of x has);
      ordered = λ i j d less low. absurd (omega arith);
    },
  )
  give_each (x ∷ xs) pairs give =
      let (ys, are) = give_each xs (all_pairs_tail (λ (a b : A). IsBefore (of a) (of b)) x xs pairs) (λ a has. give a (in_tail x xs a has)) in
      elim (give x (here x xs)) [
        | inl none ↦ (ys, gives_none x xs ys none are)
        | inr (y, right, at) ↦ (y ∷ ys, gives_more x xs ys y right at pairs are)
      ]
