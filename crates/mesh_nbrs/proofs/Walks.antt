-- A base whose entries are changed place by place, each in its way.
use Rattle.mesh_nbrs.proofs.Common.{common_steps, ◌≡◌, ℕ, ◌+◌, ◌<◌, ◌≤◌, inl, inr, Bool, true, cond, List, [], ◌∷◌, length, Option, Some, None, refl, sym, subst, ap, ◌∙◌, arith, zero, suc, slice_get, slice_set, option_map, IsEquivalence, cases_lt, lookup_from_place, Base, find, HasDistinctKeys, changed_at, walked, find-changed_at, changed_at-place, distinct-changed_at, length-changed_at}
use Rattle.mesh_atoms.proofs.Lists.{set_here}

-- the entries before a place are changed as they may be, and the others are as they were
pub record IsWalked {K V : Type 0} (eq : K → K → Bool) (May : V × ℕ → V × ℕ → Type 0) (before now : Base K V) (place : ℕ) : Type 0 where
  pub changed : (k : ℕ) (e : K × (V × ℕ)) → k < place → slice_get now k ≡ Some e → (old : V × ℕ) × (find eq before e.0 ≡ Some old) × May old e.1
  pub same : (k : ℕ) (e : K × (V × ℕ)) → place ≤ k → slice_get now k ≡ Some e → find eq before e.0 ≡ Some e.1
  pub none : (q : K) → find eq now q ≡ None → find eq before q ≡ None
  pub len : length now ≡ length before
  pub distinct : HasDistinctKeys eq now

other_place : {A : Type 0} (xs : List A) (i k : ℕ) (y : A) → (k ≡ i → ⊥) → slice_get (slice_set xs i y) k ≡ slice_get xs k
other_place [] i k y apart = refl
other_place (x ∷ xs) zero zero y apart = absurd (apart refl)
other_place (x ∷ xs) zero (suc k) y apart = refl
other_place (x ∷ xs) (suc i) zero y apart = refl
other_place (x ∷ xs) (suc i) (suc k) y apart = other_place xs i k y (λ e. apart (ap suc e))

was_none : {A : Type 0} (b : Bool) (o : Option A) (f : A → A) → cond b (option_map f o) o ≡ None → o ≡ None
was_none b o f h = grind (arith, common_steps)

-- two changes of a key are one
pub changed_at-twice : {K V : Type 0} (eq : K → K → Bool) (key : K) (f g : V × ℕ → V × ℕ) (base : Base K V) → changed_at eq (changed_at eq base key f) key g ≡ changed_at eq base key (λ e. g (f e))
changed_at-twice eq key f g [] = refl
changed_at-twice {K} {V} eq key f g (e ∷ es) = grind (arith, common_steps, (changed_at-twice eq key f g es))

-- before the walk
pub walk_begins : {K V : Type 0} {eq : K → K → Bool} (May : V × ℕ → V × ℕ → Type 0) (before : Base K V) → IsEquivalence eq → HasDistinctKeys eq before → IsWalked eq May before before 0
walk_begins May before laws distinct = record {
  changed = λ k e lt at. absurd (omega arith);
  same = λ k e le at. lookup_from_place laws before k e.0 e.1 distinct at;
  none = λ q h. h;
  len = refl;
  distinct = distinct;
}

module _ {K V : Type 0} {eq : K → K → Bool} (May : V × ℕ → V × ℕ → Type 0) (before now : Base K V) (place : ℕ) where
  -- the entry of the place is changed
  pub walk_on : IsEquivalence eq → (after : Base K V) (key : K) (entry : V × ℕ) (change : V × ℕ → V × ℕ) → slice_get now place ≡ Some (key, entry) → May entry (change entry) → after ≡ changed_at eq now key change
      → IsWalked eq May before now place → IsWalked eq May before after (place + 1)
  walk_on laws after key entry change at may is h =
      let set : after ≡ slice_set now place (key, change entry) = is ∙ changed_at-place laws change now place key entry h.distinct at in
      let here : slice_get after place ≡ Some (key, change entry) = ap (λ (l : Base K V). slice_get l place) set ∙ set_here now place (key, change entry) (key, entry) at in
      let elsewhere : (k : ℕ) → (k ≡ place → ⊥) → slice_get after k ≡ slice_get now k = λ k apart. ap (λ (l : Base K V). slice_get l k) set ∙ other_place now place k (key, change entry) apart in
      record {
        changed = λ k e lt there. elim (cases_lt k place) [
          | inl less ↦ h.changed k e less (sym (elsewhere k (λ same. omega arith)) ∙ there)
          | inr more ↦
              let same : k ≡ place = omega arith in
              let there_now : slice_get after place ≡ Some e = subst (λ (j : ℕ). slice_get after j ≡ Some e) same there in
              let which : e ≡ (key, change entry) = cc in
              rw which (entry, h.same place (key, entry) (omega arith) at, may)
        ];
        same = λ k e le there. h.same k e (omega arith) (sym (elsewhere k (λ same. omega arith)) ∙ there);
        none = λ q absent. h.none q (was_none (eq key q) (find eq now q) change (sym (find-changed_at laws key change q now) ∙ ap (λ (l : Base K V). find eq l q) (sym is) ∙ absent));
        len = ap length is ∙ length-changed_at eq key change now ∙ h.len;
        distinct = rw is (distinct-changed_at eq key change now h.distinct);
      }

  -- all places are walked
  pub walk_ends : ((a b : K) → eq a b ≡ true → a ≡ b) → length now ≤ place → IsWalked eq May before now place → (q : K) → (e : V × ℕ) → find eq now q ≡ Some e → (old : V × ℕ) × (find eq before q ≡ Some old) × May old e
  walk_ends exact all h q e found = walked exact now (λ f. (old : V × ℕ) × (find eq before f.0 ≡ Some old) × May old f.1) (λ i f lt at. h.changed i f (omega arith) at) q e found
