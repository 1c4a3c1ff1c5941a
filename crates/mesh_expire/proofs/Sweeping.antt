-- Entries that stand up to a moment, and a look over their places from the last on.
use Rattle.mesh_expire.proofs.Common.{common_steps, ◌≡◌, ℕ, ◌+◌, ◌<◌, ◌≤◌, arith, Bool, true, false, cond, length, Option, Some, None, refl, sym, ap, subst, ◌∙◌, inl, inr, slice_get, swap_remove, if◌then◌else◌, is_some, IfSome, IsEquivalence, cases_order, lookup_from_place, Base, HasDistinctKeys, find, SetsOnly, if_live, Expires, none_is_some, changed_at, TakesExpired}
use Rattle.mesh_expire.specs.Swept.{AreNotBefore, IsSwept}
use Rattle.mesh_expire.proofs.Gone.{live_without, all_expired}
use Rattle.mesh_expire.proofs.Laws.{walked, swapped_at, sets-changed_at}
use Rattle.mesh_expire.proofs.Places.{all_fresh}

-- what holds of what is in a `Some`
held : {A : Type 0} (P : A → Type 0) (o : Option A) (x : A) → o ≡ Some x → IfSome o P → P x
held {A} P o x is h = subst (λ (r : Option A). IfSome r P) is h

module _ {K V : Type 0} (eq : K → K → Bool) where
  -- what stands at a key changes
  pub not_before_changed : (laws : IsEquivalence eq) (soonest : ℕ) (base base' : Base K V) (key : K) (change : V × ℕ → V × ℕ) (was : V × ℕ) → AreNotBefore eq soonest base → find eq base key ≡ Some was
      → base' ≡ changed_at eq base key change → soonest ≤ (change was).1 → AreNotBefore eq soonest base'
  not_before_changed laws soonest base base' key change was before found is late q entry stands =
      by_key (eq key q) (sym (sets-changed_at laws key change base was found q) ∙ ap (λ (b : Base K V). find eq b q) (sym is) ∙ stands) where
        by_key : (b : Bool) → cond b (Some (change was)) (find eq base q) ≡ Some entry → soonest ≤ entry.1
        by_key true same = let it : change was ≡ entry = cc in subst (λ (e : V × ℕ). soonest ≤ e.1) it late
        by_key false same = before q entry same

  -- the expired entry of a place is taken out
  pub taken_at : (laws : IsEquivalence eq) (now : ℕ) (es es' : Base K V) (place : ℕ) (x : K × (V × ℕ)) → slice_get es place ≡ Some x → x.1.1 ≤ now → HasDistinctKeys eq es → SetsOnly eq es es' x.0 None
      → TakesExpired eq now x.0 x.1.0 es es'
  taken_at laws now es es' place x at late distinct gone = record { until = x.1.1; stood = lookup_from_place laws es place x.0 x.1 distinct at; late = late; gone = gone }

  -- the same, of the entry that a search found
  pub taken_found : (laws : IsEquivalence eq) (now : ℕ) (es es' : Base K V) (place : ℕ) (x : K × (V × ℕ)) → Some x ≡ slice_get es place → (e : K × (V × ℕ)) × (slice_get es place ≡ Some e) × (e.1.1 ≤ now) → HasDistinctKeys eq es
      → SetsOnly eq es es' x.0 None → TakesExpired eq now x.0 x.1.0 es es'
  taken_found laws now es es' place x at h7 distinct gone = grind (arith, common_steps, taken_at)

  -- the old base has come to `es` by a look over the places from the last on down to `place`: the expired entries there are gone, and no other is before `soonest`
  pub record IsSweptFrom (now soonest : ℕ) (old es : Base K V) (place : ℕ) : Type 0 where
    pub distinct : HasDistinctKeys eq es
    pub live : (q : K) → if_live now (find eq es q) ≡ if_live now (find eq old q)
    pub few : length es ≤ length old
    pub all : length es ≡ length old → es ≡ old
    pub stands : (i : ℕ) (e : K × (V × ℕ)) → place ≤ i → slice_get es i ≡ Some e → (now < e.1.1) × (soonest ≤ e.1.1)

  pub swept_all : (exact : (a b : K) → eq a b ≡ true → a ≡ b) (now soonest : ℕ) (old es : Base K V) (place : ℕ) → IsSweptFrom now soonest old es place → place ≤ 0 → Expires eq now old es × IsSwept eq soonest es
  swept_all exact now soonest old es place swept front = (
    all_expired eq now old es es refl (all_fresh exact now es (λ i e at. (swept.stands i e (omega (arith, front)) at).0)) swept.live,
    record { not_before = λ q entry found. walked exact es (λ e. soonest ≤ e.1.1) (λ i e _ at. (swept.stands i e (omega (arith, front)) at).1) q entry found; distinct = swept.distinct },
  )

  module _ (now soonest : ℕ) (old es : Base K V) (above place : ℕ) (next : above ≤ place + 1) (swept : IsSweptFrom now soonest old es above) where
    -- there is no entry at the place before
    pub swept_past : None ≡ slice_get es place → IsSweptFrom now soonest old es place
    swept_past none = record { distinct = swept.distinct; live = swept.live; few = swept.few; all = swept.all; stands = stands } where
      stands : (i : ℕ) (e : K × (V × ℕ)) → place ≤ i → slice_get es i ≡ Some e → (now < e.1.1) × (soonest ≤ e.1.1)
      stands i e from is = elim (cases_order i place) [
        | inl same ↦ none_is_some (none ∙ ap (λ (n : ℕ). slice_get es n) (sym same) ∙ is)
        | inr (inl below) ↦ absurd (omega (arith, below, from))
        | inr (inr after) ↦ swept.stands i e (omega (arith, after, next)) is
      ]

    -- the entry at the place before stays
    pub swept_with : (soonest' : ℕ) (x : K × (V × ℕ)) → Some x ≡ slice_get es place → now < x.1.1 → soonest' ≤ x.1.1 → soonest' ≤ soonest → IsSweptFrom now soonest' old es place
    swept_with soonest' x at late not_before less = record { distinct = swept.distinct; live = swept.live; few = swept.few; all = swept.all; stands = stands } where
      stands : (i : ℕ) (e : K × (V × ℕ)) → place ≤ i → slice_get es i ≡ Some e → (now < e.1.1) × (soonest' ≤ e.1.1)
      stands i e from is = elim (cases_order i place) [
        | inl same ↦
            let both : Some x ≡ Some e = at ∙ ap (λ (n : ℕ). slice_get es n) (sym same) ∙ is in
            let found : x ≡ e = cc in
            subst (λ (y : K × (V × ℕ)). (now < y.1.1) × (soonest' ≤ y.1.1)) found (late, not_before)
        | inr (inl below) ↦ absurd (omega (arith, below, from))
        | inr (inr after) ↦ let there = swept.stands i e (omega (arith, after, next)) is in (there.0, omega (arith, there.1, less))
      ]

    -- the entry at the place before, which is expired, goes
    pub swept_without : (laws : IsEquivalence eq) (es' : Base K V) (x : K × (V × ℕ)) (gone : Option (K × (V × ℕ))) → Some x ≡ slice_get es place → x.1.1 ≤ now → gone ≡ slice_get es place
        → IfSome gone (λ p. es' ≡ swap_remove es place p) → IfSome gone (λ p. SetsOnly eq es es' p.0 None) → length es' + (if is_some gone then 1 else 0) ≡ length es → HasDistinctKeys eq es'
        → IsSweptFrom now soonest old es' place
    swept_without laws es' x gone at late there entries sets len distinct =
        let is : gone ≡ Some x = there ∙ sym at in
        let new : es' ≡ swap_remove es place x = held (λ p. es' ≡ swap_remove es place p) gone x is entries in
        let fewer : length es' + 1 ≡ length es = subst (λ (o : Option (K × (V × ℕ))). length es' + (if is_some o then 1 else 0) ≡ length es) is len in
        record {
          distinct = distinct;
          live = live_without eq laws now x.0 x.1.0 old es es' (taken_at laws now es es' place x (sym at) late swept.distinct (held (λ p. SetsOnly eq es es' p.0 None) gone x is sets)) swept.live;
          few = omega (arith, fewer, swept.few);
          all = λ e. absurd (omega (arith, e, fewer, swept.few));
          stands = λ i e from stood.
              let was = swapped_at es place x i e (ap (λ (b : Base K V). slice_get b i) (sym new) ∙ stood) in
              swept.stands was.0 e (omega (arith, was.2 from, next)) was.1;
        }
