-- Texts as lists of lines, and what stands under a heading there.
use Rattle.mesh_texts.proofs.Common.{◌≡◌, ℕ, zero, suc, Bool, true, false, not, ◌&&◌, List, [], ◌∷◌, ◌++◌, length, map, ◌⊎◌, inl, inr, refl, sym, ap, ◌∙◌, subst, arith, append_assoc, codes, length-append, Contains, nat_eq, AllByRecursion as Each, flat_map, eqb-true, flat_map-append, append-nil, joined, IsLine, BeginsWith, heads_equal, tails_equal}
use Rattle.mesh_texts.proofs.Cuts.{lacks, first_cut, inside_lacks}

-- Lists

pub each_both : {A : Type 0} (P : A → Type 0) (xs ys : List A) → Each P xs → Each P ys → Each P (xs ++ ys)
each_both P [] ys a b = b
each_both P (x ∷ xs) ys a b = (a.0, each_both P xs ys a.1 b)

pub each_front : {A : Type 0} (P : A → Type 0) (xs ys : List A) → Each P (xs ++ ys) → Each P xs
each_front P [] ys a = tt
each_front P (x ∷ xs) ys a = (a.0, each_front P xs ys a.1)

pub each_back : {A : Type 0} (P : A → Type 0) (xs ys : List A) → Each P (xs ++ ys) → Each P ys
each_back P [] ys a = a
each_back P (x ∷ xs) ys a = each_back P xs ys a.1

pub each_weaker : {A : Type 0} (P Q : A → Type 0) → ((x : A) → P x → Q x) → (xs : List A) → Each P xs → Each Q xs
each_weaker P Q f [] a = tt
each_weaker P Q f (x ∷ xs) a = (f x a.0, each_weaker P Q f xs a.1)

pub each_map : {A B : Type 0} (P : B → Type 0) (f : A → B) → ((x : A) → P (f x)) → (xs : List A) → Each P (map f xs)
each_map P f h [] = tt
each_map P f h (x ∷ xs) = (h x, each_map P f h xs)

-- what holds of each holds of one
pub each_has : {A : Type 0} (P : A → Type 0) (xs behind : List A) (x : A) → Each P (xs ++ x ∷ behind) → P x
each_has P xs behind x a = (each_back P xs (x ∷ behind) a).0

-- an element of a list, with what stands before and behind it
pub record Stands {A : Type 0} (xs : List A) (x : A) : Type 0 where
  pub before : List A
  pub behind : List A
  pub whole : xs ≡ before ++ x ∷ behind

pub stands_contained : {A : Type 0} (xs : List A) (x : A) → Contains xs x → Stands xs x
stands_contained {A} [] x (k, lt, at) = absurd (omega (arith, lt))
stands_contained {A} (y ∷ xs) x (zero, lt, at) = record { before = []; behind = xs; whole = ap (λ (z : A). z ∷ xs) at }
stands_contained {A} (y ∷ xs) x (suc k, lt, at) =
    let rest = stands_contained xs x (k, omega (arith, lt), at) in
    record { before = y ∷ rest.before; behind = rest.behind; whole = ap (λ (l : List A). y ∷ l) rest.whole }

-- it stands in the front, or behind it
pub stands_in_two : {A : Type 0} (xs ys before behind : List A) (x : A) → xs ++ ys ≡ before ++ x ∷ behind →
    Stands xs x ⊎ ((between : List A) × (ys ≡ between ++ x ∷ behind) × (before ≡ xs ++ between))
stands_in_two {A} [] ys before behind x e = inr (before, e, refl)
stands_in_two {A} (y ∷ xs) ys [] behind x e = inl (record { before = []; behind = xs; whole = ap (λ (z : A). z ∷ xs) (heads_equal y x (xs ++ ys) behind e) })
stands_in_two {A} (y ∷ xs) ys (z ∷ before) behind x e =
    let same = heads_equal y z (xs ++ ys) (before ++ x ∷ behind) e in
    elim (stands_in_two xs ys before behind x (tails_equal y z (xs ++ ys) (before ++ x ∷ behind) e)) [
      | inl here ↦ inl (record { before = y ∷ here.before; behind = here.behind; whole = ap (λ (l : List A). y ∷ l) here.whole })
      | inr there ↦ inr (there.0, there.1, ap (λ (l : List A). z ∷ l) there.2 ∙ ap (λ (w : A). w ∷ (xs ++ there.0)) (sym same))
    ]

-- Lines

at_feed : (l rest : List ℕ) → (is : IsLine l) → l ++ rest ≡ is.inside ++ 10 ∷ rest
at_feed l rest is = ap (λ (t : List ℕ). t ++ rest) is.whole ∙ append_assoc is.inside (codes "\n") rest

-- the text of lines
abbrev pub flat : List (List ℕ) → List ℕ
flat lines = flat_map (λ l. l) lines

pub flat_both : (xs ys : List (List ℕ)) → flat (xs ++ ys) ≡ flat xs ++ flat ys
flat_both xs ys = flat_map-append (λ (l : List ℕ). l) xs ys

-- lines that a text begins with are its first lines
pub first_lines : (xs lines : List (List ℕ)) (rest : List ℕ) → Each IsLine xs → Each IsLine lines →
    flat lines ≡ flat xs ++ rest →
    (others : List (List ℕ)) × (lines ≡ xs ++ others) × (rest ≡ flat others)
first_lines [] lines rest a b e = (lines, refl, sym e)
first_lines (x ∷ xs) [] rest a b e = absurd (
    let none : 0 ≡ length ((x ++ flat xs) ++ rest) = ap length e in
    let all = length-append (x ++ flat xs) rest in
    let front = length-append x (flat xs) in
    let line : length x ≡ length (a.0.inside ++ codes "\n") = ap length a.0.whole in
    let parts = length-append a.0.inside (codes "\n") in
    omega (arith, none, all, front, line, parts))
first_lines (x ∷ xs) (l ∷ lines) rest a b e =
    let cut = first_cut 10 b.0.inside a.0.inside (flat lines) (flat xs ++ rest) (inside_lacks b.0.inside b.0.one) (inside_lacks a.0.inside a.0.one)
    (sym (at_feed l (flat lines) b.0) ∙ e ∙ append_assoc x (flat xs) rest ∙ at_feed x (flat xs ++ rest) a.0) in
    let more = first_lines xs lines rest a.1 b.1 cut.1 in
    let same : l ≡ x = b.0.whole ∙ ap (λ (i : List ℕ). i ++ codes "\n") cut.0 ∙ sym a.0.whole in
    (more.0, ap (λ (w : List ℕ). w ∷ lines) same ∙ ap (λ (t : List (List ℕ)). x ∷ t) more.1, more.2)

-- what stands before the first line feed and behind it, where there is one
abbrev HasFeed : List ℕ → Type 0
HasFeed s = (a : List ℕ) × (b : List ℕ) × (s ≡ a ++ 10 ∷ b) × (lacks 10 a ≡ true)

feed_after : (c : ℕ) (s : List ℕ) (here : Bool) → nat_eq c 10 ≡ here → (lacks 10 s ≡ true) ⊎ HasFeed s → (lacks 10 (c ∷ s) ≡ true) ⊎ HasFeed (c ∷ s)
feed_after c s true e rest = inr ([], s, ap (λ (x : ℕ). x ∷ s) (eqb-true c 10 e), refl)
feed_after c s false e (inl none) = inl (ap (λ (b : Bool). not b && lacks 10 s) e ∙ none)
feed_after c s false e (inr (a, b, is, none)) = inr (c ∷ a, b, ap (λ (l : List ℕ). c ∷ l) is, ap (λ (t : Bool). not t && lacks 10 a) e ∙ none)

first_feed : (s : List ℕ) → (lacks 10 s ≡ true) ⊎ HasFeed s
first_feed [] = inl refl
first_feed (c ∷ s) = feed_after c s (nat_eq c 10) refl (first_feed s)

-- a line that stands in a text of lines, behind a line feed, is one of them
pub line_among : (lines : List (List ℕ)) (front l rest : List ℕ) → Each IsLine lines → IsLine l → flat lines ≡ front ++ 10 ∷ (l ++ rest) →
    Stands lines l
line_among [] front l rest all is e = absurd (omega (arith, ap length e, length-append front (10 ∷ (l ++ rest))))
line_among (x ∷ lines) front l rest all is e =
    let first = sym (at_feed x (flat lines) all.0) ∙ e in
    let inside = inside_lacks all.0.inside all.0.one in
    elim (first_feed front) [
      | inl none ↦
          let cut = first_cut 10 all.0.inside front (flat lines) (l ++ rest) inside none first in
          let more = first_lines (l ∷ []) lines rest (is, tt) all.1 (cut.1 ∙ ap (λ (t : List ℕ). t ++ rest) (sym (append-nil l))) in
          record { before = x ∷ []; behind = more.0; whole = ap (λ (t : List (List ℕ)). x ∷ t) more.1 }
      | inr (a, b, is_front, none) ↦
          let cut = first_cut 10 all.0.inside a (flat lines) (b ++ 10 ∷ (l ++ rest)) inside none
          (first ∙ ap (λ (t : List ℕ). t ++ 10 ∷ (l ++ rest)) is_front ∙ append_assoc a (10 ∷ b) (10 ∷ (l ++ rest))) in
          let more = line_among lines b l rest all.1 is cut.1 in
          record { before = x ∷ more.before; behind = more.behind; whole = ap (λ (t : List (List ℕ)). x ∷ t) more.whole }
    ]

-- Under a heading

-- what the heading of a router begins with
abbrev pub heading_front : List ℕ → List ℕ
heading_front name = joined (codes "router " ∷ name ∷ codes " " ∷ [])

-- a line that begins like a heading
abbrev pub Heads : List ℕ → Type 0
Heads l = BeginsWith (codes "router ") l

-- the line stands under a heading of that kind, before any other heading
pub record Under (lines : List (List ℕ)) (Kind : List ℕ → Type 0) (line : List ℕ) : Type 0 where
  pub before : List (List ℕ)
  pub heading : List ℕ
  pub between : List (List ℕ)
  pub behind : List (List ℕ)
  pub whole : lines ≡ before ++ heading ∷ (between ++ line ∷ behind)
  pub kind : Kind heading
  pub no_other : Each (λ l. Heads l → ⊥) between

-- behind lines of which none is a heading
pub under_past : (Kind : List ℕ → Type 0) → ((l : List ℕ) → Kind l → Heads l) → (xs ys : List (List ℕ)) (line : List ℕ) →
    Each (λ l. Heads l → ⊥) xs → Under (xs ++ ys) Kind line → Under ys Kind line
under_past Kind heads [] ys line a u = u
under_past Kind heads (x ∷ xs) ys line a u = by (under_past Kind heads xs ys line a.1) u.before u.whole where
  by : (Under (xs ++ ys) Kind line → Under ys Kind line) → (before : List (List ℕ)) → x ∷ (xs ++ ys) ≡ before ++ u.heading ∷ (u.between ++ line ∷ u.behind) → Under ys Kind line
  by again [] e = absurd (a.0 (subst Heads (sym (heads_equal x u.heading (xs ++ ys) (u.between ++ line ∷ u.behind) e)) (heads u.heading u.kind)))
  by again (b ∷ before) e = again (record {
    before = before;
    heading = u.heading;
    between = u.between;
    behind = u.behind;
    whole = tails_equal x b (xs ++ ys) (before ++ u.heading ∷ (u.between ++ line ∷ u.behind)) e;
    kind = u.kind;
    no_other = u.no_other;
  })

-- further lines in front
pub under_behind : (Kind : List ℕ → Type 0) (xs ys : List (List ℕ)) (line : List ℕ) → Under ys Kind line →
    Under (xs ++ ys) Kind line
under_behind Kind xs ys line u = record {
  before = xs ++ u.before;
  heading = u.heading;
  between = u.between;
  behind = u.behind;
  whole = ap (λ (l : List (List ℕ)). xs ++ l) u.whole ∙ sym (append_assoc xs u.before (u.heading ∷ (u.between ++ line ∷ u.behind)));
  kind = u.kind;
  no_other = u.no_other;
}
