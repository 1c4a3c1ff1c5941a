-- The least address that one of two lists alone has.
use Rattle.mesh_settled.proofs.Common.{◌≡◌, ℕ, ◌+◌, ◌<◌, ◌≤◌, ◌⊎◌, inl, inr, refl, ap, subst, arith, List, Contains, Option, Some, None, Bool, true, false, cond, nat_lt, length, slice_get, ◌↔◌, IsTrue, common_steps, false≢true, ltb-true, ltb-false, cases_eq, Addr4, AreApart, IsLeastMissing, lower, place_of as place_in, contains_at, same_some}

-- it stands before place i
abbrev pub IsEarlier : {X : Type 0} → List X → ℕ → X → Type 0
IsEarlier list i a = (k : ℕ) × (k < i) × (slice_get list k ≡ Some a)

pub earlier_step : {X : Type 0} (list : List X) (i : ℕ) (a b : X) → slice_get list i ≡ Some a → IsEarlier list (i + 1) b → IsEarlier list i b ⊎ (a ≡ b)
earlier_step list i a b at w = grind (arith, common_steps, cases_eq, same_some, slice_get)

pub earlier_more : {X : Type 0} (list : List X) (i : ℕ) (b : X) → IsEarlier list i b → IsEarlier list (i + 1) b
earlier_more list i b w = (w.0, omega (arith, w.1), w.2)

module _ (list others : List Addr4) (i : ℕ) (a : Addr4) (at : slice_get list i ≡ Some a) where
  -- one more address
  pub one_more : (best : Option Addr4) (had : Bool) → IsTrue had ↔ Contains others a → IsLeastMissing (IsEarlier list i) others best → IsLeastMissing (IsEarlier list (i + 1)) others (lower best a had)
  one_more None true test least = λ b w. elim (earlier_step list i a b at w) [ inl earlier ↦ least b earlier | inr same ↦ subst (Contains others) same (test.0 refl) ]
  one_more None false test least = grind (arith, common_steps, false≢true, earlier_step)
  one_more (Some c) true test least = (
    earlier_more list i c least.0,
    least.1,
    λ b w missing. elim (earlier_step list i a b at w) [
      | inl earlier ↦ least.2 b earlier missing
      | inr same ↦ absurd (missing (subst (Contains others) same (test.0 refl)))
    ],
  )
  one_more (Some c) false test least = by_case (nat_lt a.0 c.0) refl
    where
      this : (b : Addr4) → a ≡ b → a.0 ≤ b.0
      this b same = let e : a.0 ≡ b.0 = ap (λ (x : Addr4). x.0) same in omega arith

      by_case : (b : Bool) → nat_lt a.0 c.0 ≡ b → IsLeastMissing (IsEarlier list (i + 1)) others (cond b (Some a) (Some c))
      by_case true is = (
        (i, omega arith, at),
        λ has. false≢true (test.1 has),
        λ b w missing. elim (earlier_step list i a b at w) [
          | inl earlier ↦ let low : c.0 ≤ b.0 = least.2 b earlier missing in let less : a.0 < c.0 = ltb-true _ _ is in omega arith
          | inr same ↦ this b same
        ],
      )
      by_case false is = (
        earlier_more list i c least.0,
        least.1,
        λ b w missing. elim (earlier_step list i a b at w) [
          | inl earlier ↦ least.2 b earlier missing
          | inr same ↦ let low : c.0 ≤ a.0 = ltb-false _ _ is in let here : a.0 ≤ b.0 = this b same in omega arith
        ],
      )

-- all addresses
pub all_missing : (list others : List Addr4) (i : ℕ) (best : Option Addr4) → length list ≤ i → IsLeastMissing (IsEarlier list i) others best → IsLeastMissing (λ a. Contains list a) others best
all_missing list others i None end least = λ a has. let w = place_in list a has in least a (w.0, omega (arith, w.1), w.2)
all_missing list others i (Some c) end least =
    (contains_at list least.0.0 c least.0.2, least.1, λ a has missing. let w = place_in list a has in least.2 a (w.0, omega (arith, w.1), w.2) missing)

none_missing : (ms ns : List Addr4) {o : Option Addr4} → o ≡ None → IsLeastMissing (λ a. Contains ms a) ns o → (a : Addr4) → Contains ms a → Contains ns a
none_missing ms ns e least = subst (IsLeastMissing (λ a. Contains ms a) ns) e least

some_missing : (ms ns : List Addr4) {o : Option Addr4} (c : Addr4) → o ≡ Some c → IsLeastMissing (λ a. Contains ms a) ns o → IsLeastMissing (λ a. Contains ms a) ns (Some c)
some_missing ms ns c e least = subst (IsLeastMissing (λ a. Contains ms a) ns) e least

apart_swap : {ms ns : List Addr4} {m n : Option ℕ} → AreApart ms ns m n → AreApart ns ms n m
apart_swap w = record {
  least = w.least;
  apart = elim w.apart [ inl h ↦ inr (h.0, h.2, h.1) | inr g ↦ inl (g.0, g.2, g.1) ];
  none_less = λ a x. w.none_less a (elim x [ inl h ↦ inr h | inr g ↦ inl g ]);
}

module _ {ms ns : List Addr4} {h p : Option Addr4} (first : IsLeastMissing (λ a. Contains ms a) ns h) (second : IsLeastMissing (λ a. Contains ns a) ms p) where
  pub held_apart : (a : Addr4) (m : Option ℕ) → h ≡ Some a → m ≡ Some a.0 → p ≡ None ⊎ ((b : Addr4) × (p ≡ Some b) × (a.0 ≤ b.0)) → AreApart ms ns m None
  held_apart a m is number other =
      let f = some_missing ms ns a is first in record {
        least = a;
        apart = inl ((f.0, f.1), number, refl);
        none_less = λ x apart. elim apart [
          | inl here ↦ f.2 x here.0 here.1
          | inr there ↦ elim other [
            | inl none ↦ absurd (there.1 (none_missing ns ms none second x there.0))
            | inr some ↦ let low : some.0.0 ≤ x.0 = (some_missing ns ms some.0 some.1 second).2 x there.0 there.1 in let more = some.2 in omega arith
          ]
        ];
      }

pub present_apart : {ms ns : List Addr4} {h p : Option Addr4} → IsLeastMissing (λ a. Contains ms a) ns h → IsLeastMissing (λ a. Contains ns a) ms p → (b : Addr4) (n : Option ℕ) → p ≡ Some b → n ≡ Some b.0 →
    h ≡ None ⊎ ((a : Addr4) × (h ≡ Some a) × (b.0 ≤ a.0)) → AreApart ms ns None n
present_apart {ms} {ns} {h} {p} first second b n is number other = apart_swap (held_apart {ms = ns} {ns = ms} {h = p} {p = h} second first b n is number other)
