-- A base that is changed by the place of a key.
use Rattle.mesh_expire.proofs.Common.{common_steps, ◌≡◌, ℕ, zero, suc, ◌+◌, ◌<◌, ◌≤◌, inl, inr, subst, Bool, true, false, cond, List, [], ◌∷◌, ◌++◌, length, get_or, Option, Some, None, is_some, refl, sym, ap, ◌∙◌, arith, remove, insert, slice_get, slice_set, option_map, IsSome, nat_lt, cases_order, lt-ltb, IsDistinct, AllByRecursion, list_any, filter, IsEquivalence, lookup, remove_entry, keys_of, none_passes_from_lookup, lookup-insert, lookup-remove_entry, is_some-lookup, IsDistinct-push, IsDistinct-tail, lookup-filter-values, lookup_from_place, option_filter, slice_get_within, get_or_from_slice_get, Base, find, HasDistinctKeys, SetsOnly, IsFresh, if_live, changed_at, TakesExpired}
use Rattle.std.proofs.lemmas.List.{map_push, take_all, drop_all}
use Rattle.std.proofs.lemmas.List.Sums.{length-filter, count_by-le-length}
use Rattle.mesh_expire.proofs.Laws.{walked, apart_before, changed_at-place, sets-changed_at, distinct-changed_at, length-changed_at}

-- what stands at the place of a key
pub there : {K X : Type 0} (es : List (K × X)) (i : ℕ) (key : K) → option_map (λ (e : K × X). e.0) (slice_get es i) ≡ Some key → (x : X) × (slice_get es i ≡ Some (key, x))
there {K} {X} es i key h = by_case (slice_get es i) refl h where
  by_case : (o : Option (K × X)) → slice_get es i ≡ o → option_map (λ (e : K × X). e.0) o ≡ Some key → (x : X) × (slice_get es i ≡ Some (key, x))
  by_case None is h = absurd cc
  by_case (Some e) is h = let same : e.0 ≡ key = cc in (e.1, is ∙ ap (λ k. Some (k, e.1)) same)

-- the place of a key is a place
pub within : {K X : Type 0} (es : List (K × X)) (i : ℕ) (key : K) → option_map (λ (e : K × X). e.0) (slice_get es i) ≡ Some key → i < length es
within es i key h = let t = there es i key h in slice_get_within es i (key, t.0) t.1

all_removed : {K X : Type 0} (test : K → Bool) (P : K → Type 0) (es : List (K × X)) → AllByRecursion P (keys_of es) → AllByRecursion P (keys_of (remove_entry test es))
all_removed test P [] h = tt
all_removed test P (e ∷ es) h = elim (test e.0) as (λ b. AllByRecursion P (keys_of (cond b es (e ∷ remove_entry test es)))) [ true ↦ h.1 | false ↦ (h.0, all_removed test P es h.1) ]

module _ {K V : Type 0} {eq : K → K → Bool} (laws : IsEquivalence eq) where
  distinct-remove_entry : (test : K → Bool) (es : Base K V) → HasDistinctKeys eq es → HasDistinctKeys eq (remove_entry test es)
  unfolding IsDistinct
  distinct-remove_entry test [] h = h
  distinct-remove_entry test (e ∷ es) h = elim (test e.0) as (λ b. IsDistinct eq (keys_of (cond b es (e ∷ remove_entry test es)))) [ true ↦ h.1 | false ↦ (all_removed test (λ y. eq e.0 y ≡ false) es h.0, distinct-remove_entry test es h.1) ]

  removes : (es : Base K V) (i : ℕ) (key : K) (entry : V × ℕ) → HasDistinctKeys eq es → slice_get es i ≡ Some (key, entry) → remove es i ≡ remove_entry (eq key) es
  removes [] i key entry distinct at = absurd cc
  removes (e ∷ es) zero key entry distinct at = grind (arith, common_steps)
  removes (e ∷ es) (suc i) key entry distinct at = grind (arith, common_steps, apart_before, IsDistinct-tail, (removes es i key entry (IsDistinct-tail eq e.0 (keys_of es) distinct) at))

  -- the key of a place is taken out
  pub removed : (key : K) (es : Base K V) (i : ℕ) → option_map (λ (e : K × (V × ℕ)). e.0) (slice_get es i) ≡ Some key → HasDistinctKeys eq es
      → HasDistinctKeys eq (remove es i) × SetsOnly eq es (remove es i) key None × IsSome (find eq es key)
  removed key es i h distinct =
      let t = there es i key h in
      let e : remove es i ≡ remove_entry (eq key) es = removes es i key t.0 distinct t.1 in (
        rw e (distinct-remove_entry (eq key) es distinct),
        λ q. rw e (lookup-remove_entry laws (eq key) (λ x y h. laws.congr key x y h) q es distinct),
        rw (lookup_from_place laws es i key t.0 distinct t.1) refl,
      )

  -- what stands at the place of a key, `e`, is changed, and was found
  pub changes : (key : K) (change : V × ℕ → V × ℕ) (es : Base K V) (i : ℕ) (e : K × (V × ℕ)) → e ≡ get_or es i e → option_map (λ (e : K × (V × ℕ)). e.0) (slice_get es i) ≡ Some key → HasDistinctKeys eq es
      → (slice_set es i (e.0, change e.1) ≡ changed_at eq es key change) × (find eq es key ≡ Some e.1)
  changes key change es i e at h distinct =
      let t = there es i key h in
      let is : e ≡ (key, t.0) = at ∙ get_or_from_slice_get es i (key, t.0) e t.1 in
      (rw is (sym (changed_at-place laws change es i key t.0 distinct t.1)), rw is (lookup_from_place laws es i key t.0 distinct t.1))

  -- what stands at the place of a key is replaced
  pub replaced : (key : K) (entry : V × ℕ) (es : Base K V) (i : ℕ) → option_map (λ (e : K × (V × ℕ)). e.0) (slice_get es i) ≡ Some key → HasDistinctKeys eq es
      → HasDistinctKeys eq (slice_set es i (key, entry)) × SetsOnly eq es (slice_set es i (key, entry)) key (Some entry) × (length (slice_set es i (key, entry)) ≡ length es) × IsSome (find eq es key)
  replaced key entry es i h distinct =
      let t = there es i key h in
      let found = lookup_from_place laws es i key t.0 distinct t.1 in
      let e : slice_set es i (key, entry) ≡ changed_at eq es key (λ _. entry) = sym (changed_at-place laws (λ _. entry) es i key t.0 distinct t.1) in (
        rw e (distinct-changed_at eq key (λ _. entry) es distinct),
        rw e (sets-changed_at laws key (λ _. entry) es t.0 found),
        rw e (length-changed_at eq key (λ _. entry) es),
        ap is_some found,
      )

  -- a key that stands nowhere comes to the end
  pub added : (key : K) (entry : V × ℕ) (es : Base K V) → find eq es key ≡ None → HasDistinctKeys eq es
      → HasDistinctKeys eq (es ++ (key, entry) ∷ []) × SetsOnly eq es (es ++ (key, entry) ∷ []) key (Some entry)
  added key entry es h distinct =
      let none = none_passes_from_lookup (eq key) es h in
      let whole : insert es (length es) (key, entry) ≡ es ++ (key, entry) ∷ [] = rw (take_all (length es) es (omega arith), drop_all (length es) es (omega arith)) refl in
      let free : list_any (eq key) (keys_of es) ≡ false = sym (is_some-lookup (eq key) es) ∙ rw h refl in
      let keys : keys_of (es ++ (key, entry) ∷ []) ≡ keys_of es ++ key ∷ [] = map_push (λ (e : K × (V × ℕ)). e.0) es (key, entry) in
      (rw keys (IsDistinct-push laws (keys_of es) key distinct free), λ q. rw (← whole) (lookup-insert laws key entry q es (length es) none))

-- whether an entry still stands at a moment
abbrev pub is_live : {V : Type 0} → ℕ → V × ℕ → Bool
is_live now e = nat_lt now e.1

if_live-filter : {V : Type 0} (now : ℕ) (o : Option (V × ℕ)) → option_filter (is_live now) o ≡ if_live now o
if_live-filter now o = grind (arith, common_steps)

-- after the expired entries are gone
pub lives : {K V : Type 0} {eq : K → K → Bool} (laws : IsEquivalence eq) (now : ℕ) (q : K) (es : Base K V) → HasDistinctKeys eq es → find eq (filter (λ (e : K × (V × ℕ)). is_live now e.1) es) q ≡ if_live now (find eq es q)
lives {K} {V} {eq} laws now q es distinct = lookup-filter-values laws (is_live now) q es distinct ∙ if_live-filter now (lookup (eq q) es)

-- where none goes, the list is as it was
pub none_filtered : {X : Type 0} (p : X → Bool) (xs : List X) → length xs ≤ length (filter p xs) → filter p xs ≡ xs
none_filtered p [] h = refl
none_filtered {X} p (x ∷ xs) h = grind (arith, common_steps, length-filter, count_by-le-length, (none_filtered p xs))

-- what holds of the moments up to a place holds with one more
pub more_live : {E : Type 0} (moment : E → ℕ) (now : ℕ) (xs : List E) (i : ℕ) (x : E) → slice_get xs i ≡ Some x → now < moment x
    → ((k : ℕ) (e : E) → k < i → slice_get xs k ≡ Some e → now < moment e) → (k : ℕ) (e : E) → k < i + 1 → slice_get xs k ≡ Some e → now < moment e
more_live {E} moment now xs i x at is before k e within here = elim (cases_order k i) [
  | inl same ↦
      let both : Some e ≡ Some x = sym here ∙ ap (λ (n : ℕ). slice_get xs n) same ∙ at in
      let found : e ≡ x = cc in
      subst (λ (y : E). now < moment y) (sym found) is
  | inr (inl below) ↦ before k e below here
  | inr (inr above) ↦ absurd (omega (arith, within, above))
]

-- where no entry is expired, nothing that is found is
pub all_fresh : {K V : Type 0} {eq : K → K → Bool} (exact : (a b : K) → eq a b ≡ true → a ≡ b) (now : ℕ) (es : Base K V)
    → ((i : ℕ) (e : K × (V × ℕ)) → slice_get es i ≡ Some e → now < e.1.1) → IsFresh eq now es
all_fresh exact now es each q value until found = walked exact es (λ e. nat_lt now e.1.1 ≡ true) (λ i e _ at. lt-ltb now e.1.1 (each i e at)) q (value, until) found

-- the expired entry of a place, `x`, is taken out
pub takes : {K V : Type 0} {eq : K → K → Bool} (laws : IsEquivalence eq) (now : ℕ) (es : Base K V) (i : ℕ) (x : K × (V × ℕ)) → x ≡ get_or es i x
    → (e : K × (V × ℕ)) × (slice_get es i ≡ Some e) × (e.1.1 ≤ now) → HasDistinctKeys eq es → HasDistinctKeys eq (remove es i) × TakesExpired eq now x.0 x.1.0 es (remove es i)
takes {K} {V} {eq} laws now es i x read (e, at, late) distinct =
    let is : x ≡ e = read ∙ get_or_from_slice_get es i e x at in
    let (apart, gone, _) = removed laws e.0 es i (ap (option_map (λ (y : K × (V × ℕ)). y.0)) at) distinct in
    subst (λ (y : K × (V × ℕ)). HasDistinctKeys eq (remove es i) × TakesExpired eq now y.0 y.1.0 es (remove es i)) (sym is) (
      apart,
      record { until = e.1.1; stood = lookup_from_place laws es i e.0 e.1 distinct at; late = late; gone = gone },
    )
