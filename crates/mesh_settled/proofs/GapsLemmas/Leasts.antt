-- The order of keys, and the lesser of two gaps.
use Rattle.mesh_settled.proofs.Common.{◌≡◌, ℕ, ◌+◌, ◌<◌, ◌≤◌, ◌⊎◌, inl, inr, refl, sym, subst, arith, Option, Some, None, Bool, true, false, cond, nat_lt, nat_eq, List, slice_get, common_steps, false≢true, ltb-true, lt-ltb, ltb-false, eqb-true, eq-eqb, cases_eq, cases_Bool, and_parts, or_cases, Found, GapKey, same_some, true_false, Field, Look, IsHeldTuple, IsPresentTuple, AreSame, precedes, is_ranked_before, rank_of, IsLeastGap, IsTest, lesser, found_at}
use Rattle.mesh_settled.specs.declared.gaps.found.Rank.{Rank}
use Rattle.mesh_settled.specs.declared.gaps.compare.HeldAndPresent.{HeldAndPresent}

-- The order

pub before_cases : (m n : ℕ) (r : Bool) → precedes m n r ≡ true → (m < n) ⊎ ((m ≡ n) × (r ≡ true))
before_cases m n r e = grind (arith, common_steps, or_cases, nat_lt, nat_eq, ltb-true, and_parts, eqb-true)

before_less : (m n : ℕ) (r : Bool) → m < n → precedes m n r ≡ true
before_less m n r less = grind (arith, common_steps, nat_lt, lt-ltb, nat_eq, false≢true)

before_same : (m n : ℕ) (r : Bool) → m ≡ n → r ≡ true → precedes m n r ≡ true
before_same m n r same rest = grind (arith, common_steps, nat_lt, nat_eq, eq-eqb, false≢true)

then_before : (k l m : ℕ) (r s t : Bool) → (r ≡ true → s ≡ true → t ≡ true) → precedes k l r ≡ true → precedes l m s ≡ true → precedes k m t ≡ true
then_before k l m r s t next e f = grind (arith, common_steps, before_cases, before_less, before_same)

not_before : (k l m : ℕ) (r s t : Bool) → (r ≡ true → s ≡ false → t ≡ true) → precedes k l r ≡ true → precedes m l s ≡ false → precedes k m t ≡ true
not_before k l m r s t next e f = grind (arith, common_steps, true_false, before_less, before_cases, cases_eq, cases_Bool, before_same)

below : (k l m : ℕ) → nat_lt k l ≡ true → nat_lt l m ≡ true → nat_lt k m ≡ true
below k l m e f = let g = ltb-true k l e in let h = ltb-true l m f in lt-ltb k m (omega arith)

not_below : (k l m : ℕ) → nat_lt k l ≡ true → nat_lt m l ≡ false → nat_lt k m ≡ true
not_below k l m e f = let g = ltb-true k l e in let h = ltb-false m l f in lt-ltb k m (omega arith)

pub before_trans : (k l m : Rank) → is_ranked_before k l ≡ true → is_ranked_before l m ≡ true → is_ranked_before k m ≡ true
before_trans k l m =
    then_before k.kind l.kind m.kind _ _ _ (then_before k.iface l.iface m.iface _ _ _ (then_before k.first l.first m.first _ _ _
    (then_before k.second l.second m.second _ _ _ (below k.prefix l.prefix m.prefix))))

pub before_not : (k l m : Rank) → is_ranked_before k l ≡ true → is_ranked_before m l ≡ false → is_ranked_before k m ≡ true
before_not k l m =
    not_before k.kind l.kind m.kind _ _ _ (not_before k.iface l.iface m.iface _ _ _ (not_before k.first l.first m.first _ _ _
    (not_before k.second l.second m.second _ _ _ (not_below k.prefix l.prefix m.prefix))))

-- The lesser of two gaps

module _ (l : Look) (P Q : GapKey → Type 0) where
  abbrev Either : GapKey → Type 0
  Either key = P key ⊎ Q key

  pub least_lesser : (f g : Option Found) → IsLeastGap l P f → IsLeastGap l Q g → IsLeastGap l Either (lesser f g)
  least_lesser None None p q = λ key either. elim either [ inl at ↦ p key at | inr at ↦ q key at ]
  least_lesser None (Some g) p q = (inr q.0, q.1, λ key either first. elim either [ inl at ↦ p key at | inr at ↦ q.2 key at first ])
  least_lesser (Some f) None p q = (inl p.0, p.1, λ key either first. elim either [ inl at ↦ p.2 key at first | inr at ↦ q key at ])
  least_lesser (Some f) (Some g) p q = by_case (is_ranked_before (rank_of g.key) (rank_of f.key)) refl
    where
      by_case : (b : Bool) → is_ranked_before (rank_of g.key) (rank_of f.key) ≡ b → IsLeastGap l Either (cond b (Some g) (Some f))
      by_case true is = (
        inr q.0,
        q.1,
        λ key either first. elim either [
          | inl at ↦ p.2 key at (before_trans (rank_of key) (rank_of g.key) (rank_of f.key) first is)
          | inr at ↦ q.2 key at first
        ],
      )
      by_case false is = (
        inl p.0,
        p.1,
        λ key either first. elim either [
          | inl at ↦ p.2 key at first
          | inr at ↦ q.2 key at (before_not (rank_of key) (rank_of f.key) (rank_of g.key) first is)
        ],
      )

  -- the same for keys that are said in another way
  pub least_as : ((key : GapKey) → P key → Q key) → ((key : GapKey) → Q key → P key) → (f : Option Found) → IsLeastGap l P f → IsLeastGap l Q f
  least_as there back None p = λ key at. p key (back key at)
  least_as there back (Some f) p = (there f.key p.0, p.1, λ key at first. p.2 key (back key at) first)

-- One key
pub least_one : (l : Look) (key : GapKey) (v : Option HeldAndPresent) → IsTest l key v → IsLeastGap l (λ k. k ≡ key) (found_at key v)
least_one l key None test = λ k same. subst (AreSame l) (sym same) test
least_one l key (Some v) test = grind (arith, common_steps, nat_lt, ltb-true, before_cases)

-- Keys by places

-- the element at a place of a list tells the keys
pub at_place : {A : Type 0} (l : Look) (list : List A) (P : A → GapKey → Type 0) (n : ℕ) (e : A) (f : Option Found) → slice_get list n ≡ Some e → IsLeastGap l (P e) f →
    IsLeastGap l (λ key. (x : A) × (slice_get list n ≡ Some x) × P x key) f
at_place {A} l list P n e f at least =
    least_as l (P e) (λ key. (x : A) × (slice_get list n ≡ Some x) × P x key) (λ key w. (e, at, w)) (λ key w. subst (λ (x : A). P x key) (same_some w.1 at) w.2) f least

-- or the entry
pub at_entry : {K V : Type 0} (l : Look) (list : List (K × V)) (P : K → V → GapKey → Type 0) (n : ℕ) (k : K) (v : V) (f : Option Found) → slice_get list n ≡ Some (k, v) → IsLeastGap l (P k v) f →
    IsLeastGap l (λ key. (x : K) × (y : V) × (slice_get list n ≡ Some (x, y)) × P x y key) f
at_entry {K} {V} l list P n k v f at least = grind (arith, common_steps, least_as, same_some)

-- what the places before this give
abbrev pub Below : (ℕ → GapKey → Type 0) → ℕ → GapKey → Type 0
Below P n key = (m : ℕ) × (m < n) × P m key

pub least_step : (l : Look) (P : ℕ → GapKey → Type 0) (n : ℕ) (f g : Option Found) → IsLeastGap l (Below P n) f → IsLeastGap l (P n) g → IsLeastGap l (Below P (n + 1)) (lesser f g)
least_step l P n f g p q =
    least_as l (λ key. Below P n key ⊎ P n key) (Below P (n + 1))
    (λ key w. elim w [ inl earlier ↦ (earlier.0, omega (arith, earlier.1), earlier.2) | inr here ↦ (n, omega arith, here) ])
    (λ key w. elim (cases_eq w.0 n) [ inl same ↦ inr (subst (λ (m : ℕ). P m key) same w.2) | inr other ↦ inl (w.0, omega (arith, w.1), w.2) ])
    (lesser f g) (least_lesser l (Below P n) (P n) f g p q)

-- the end of a loop
pub least_end : (l : Look) (P : ℕ → GapKey → Type 0) (n m : ℕ) (f : Option Found) → m ≤ n → n ≤ m → IsLeastGap l (Below P n) f → IsLeastGap l (Below P m) f
least_end l P n m f up down p = subst (λ (k : ℕ). IsLeastGap l (Below P k) f) (antisym n m up down) p
  where
    antisym : (n m : ℕ) → m ≤ n → n ≤ m → n ≡ m
    antisym n m up down = omega arith

-- All keys of a kind, where those that are looked at have all that a side has
pub least_all : (l : Look) (P Q : GapKey → Type 0) (f : Option Found) → ((key : GapKey) → P key → Q key) → ((key : GapKey) (fs : List Field) → Q key → IsHeldTuple l key fs → P key) →
    ((key : GapKey) (gs : List Field) → Q key → IsPresentTuple l key gs → P key) → IsLeastGap l P f → IsLeastGap l Q f
least_all l P Q None in_kind held given p = λ key q. record { held = λ fs h. (p key (held key fs q h)).held fs h; present = λ gs w. (p key (given key gs q w)).present gs w }
least_all l P Q (Some f) in_kind held given p = (
  in_kind f.key p.0,
  p.1,
  λ key q first. record {
    held = λ fs h. (p.2 key (held key fs q h) first).held fs h;
    present = λ gs w. (p.2 key (given key gs q w) first).present gs w;
  },
)
