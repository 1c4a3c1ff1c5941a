-- What follows from the laws of a table.
use Rattle.mesh_expire.proofs.Common.{common_steps, ◌≡◌, ℕ, zero, suc, ◌+◌, ◌-◌, ◌<◌, ◌≤◌, ◌++◌, inl, inr, take, drop, map, add-one, arith, Bool, true, false, cond, List, [], ◌∷◌, length, get_or, length-take, get_or-take, get_or-set_same, get_or-set_other, Option, Some, None, refl, sym, ap, subst, ◌∙◌, option_map, slice_get, slice_set, swap_remove, IsDistinct, AllByRecursion, IsEquivalence, keys_of, set_value, lookup-none, cases_order, IsDistinct-head, IsDistinct-tail, IsDistinct-IsPermutation, none_past_head, place_from_lookup, slice_get-map, slice_get_within, slice_get_read, slice_get-get_or, get_or_from_slice_get, Base, find, HasDistinctKeys, SetsOnly, changed_at}
use Rattle.std.specs.List.Sorted.{IsPermutation}
use Rattle.std.proofs.lemmas.List.Sorted.{IsPermutation-map, IsPermutation-swap_remove}
use Rattle.indexmap.proofs.MapLemmas.{lookup_permutation}

-- no key stands twice where there is none
pub distinct_none : {K : Type 0} (eq : K → K → Bool) → IsDistinct eq []
unfolding IsDistinct
distinct_none eq = tt

-- nothing is there where nothing of it is lent
pub found_none : {A B : Type 0} (f : A → B) (o : Option A) → None ≡ option_map f o → o ≡ None
found_none f o h = grind (arith, common_steps)

-- what is lent is of what is there
pub found_some : {A B : Type 0} (f : A → B) (o : Option A) (x : A) (y : B) → Some y ≡ option_map f o → o ≡ Some x → y ≡ f x
found_some f o x y h is = let both : Some y ≡ Some (f x) = h ∙ ap (option_map f) is in cc

-- what is given back was there
given_back : {A B : Type 0} (f : A → B) (o : Option A) (y : B) → Some y ≡ option_map f o → (x : A) × (o ≡ Some x)
given_back f None y h = absurd cc
given_back f (Some x) y h = (x, refl)

module _ {K V : Type 0} (eq : K → K → Bool) (key : K) (change : V × ℕ → V × ℕ) where
  -- a change keeps the keys, and each at its place
  pub keys-changed_at : (base : Base K V) → keys_of (changed_at eq base key change) ≡ keys_of base
  keys-changed_at [] = refl
  keys-changed_at (e ∷ es) = ap (λ (l : List K). e.0 ∷ l) (keys-changed_at es)

  pub length-changed_at : (base : Base K V) → length (changed_at eq base key change) ≡ length base
  length-changed_at [] = refl
  length-changed_at (e ∷ es) = ap suc (length-changed_at es)

  pub distinct-changed_at : (base : Base K V) → HasDistinctKeys eq base → HasDistinctKeys eq (changed_at eq base key change)
  distinct-changed_at base distinct = rw (keys-changed_at base) distinct

  -- no change where the key isn't there
  pub changed_at-absent : (base : Base K V) → find eq base key ≡ None → changed_at eq base key change ≡ base
  changed_at-absent [] h = refl
  changed_at-absent (e ∷ es) h = absent (eq key e.0) refl (λ k. changed_at-absent es k) h where
    absent : (b : Bool) → eq key e.0 ≡ b → (find eq es key ≡ None → changed_at eq es key change ≡ es) → find eq (e ∷ es) key ≡ None → changed_at eq (e ∷ es) key change ≡ e ∷ es
    absent true is others h = absurd (let some : find eq (e ∷ es) key ≡ Some e.1 = rw is refl in cc)
    absent false is others h = rw (is, others (rw is at h)) refl

key_at : {K X : Type 0} (es : List (K × X)) (i : ℕ) (k : K) (x : X) → slice_get es i ≡ Some (k, x) → slice_get (keys_of es) i ≡ Some k
key_at {K} {X} es i k x at = slice_get-map (λ (e : K × X). e.0) es i ∙ ap (option_map (λ (e : K × X). e.0)) at

cond_same : {A : Type 0} (b : Bool) (x : A) → x ≡ cond b x x
cond_same b x = grind (arith, common_steps)

some_cond : {A : Type 0} (b : Bool) (x y : A) → Some (cond b x y) ≡ cond b (Some x) (Some y)
some_cond b x y = grind (arith, common_steps)

-- what holds at each place holds of what is found
pub walked : {K V : Type 0} {eq : K → K → Bool} (exact : (a b : K) → eq a b ≡ true → a ≡ b) (base : Base K V) (P : K × (V × ℕ) → Type 0)
    → ((i : ℕ) (e : K × (V × ℕ)) → i < length base → slice_get base i ≡ Some e → P e)
    → (q : K) (entry : V × ℕ) → find eq base q ≡ Some entry → P (q, entry)
walked {eq = eq} exact base P each q entry found =
    let there = place_from_lookup (eq q) base entry found in
    let same : (there.1, entry) ≡ (q, entry) = ap (λ k. (k, entry)) (sym (exact q there.1 there.3)) in
    subst P same (each there.0 (there.1, entry) (slice_get_within base there.0 (there.1, entry) there.2) there.2)

-- what holds of each holds of the one at a place
all_at : {A : Type 0} (P : A → Type 0) (xs : List A) (i : ℕ) (x : A) → AllByRecursion P xs → slice_get xs i ≡ Some x → P x
all_at P [] i x h at = absurd cc
all_at P (y ∷ ys) zero x h at = let is : y ≡ x = cc in subst P is h.0
all_at P (y ∷ ys) (suc i) x h at = all_at P ys i x h.1 at

-- where the last comes to a place, what stands at a place stood there or further on
pub swapped_at : {X : Type 0} (xs : List X) (i : ℕ) (d : X) (k : ℕ) (x : X) → slice_get (swap_remove xs i d) k ≡ Some x → (j : ℕ) × (slice_get xs j ≡ Some x) × (i ≤ k → i < j)
swapped_at {X} xs i d k x at =
    let n : ℕ = length xs - 1 in
    let last : X = get_or xs n d in
    let short : k < n = omega (arith, slice_get_within (swap_remove xs i d) k x at, length-take n (slice_set xs i last)) in
    let read : get_or (slice_set xs i last) k x ≡ x = sym (get_or-take n (slice_set xs i last) k x short) ∙ get_or_from_slice_get (swap_remove xs i d) k x x at in
    elim (cases_order k i) [
      | inl same ↦
          let is : last ≡ x = sym (get_or-set_same xs i last x (omega (arith, short, same))) ∙ ap (λ (m : ℕ). get_or (slice_set xs i last) m x) (sym same) ∙ read in
          (n, slice_get-get_or xs n d (omega (arith, short)) ∙ ap Some is, λ _. omega (arith, short, same))
      | inr (inl below) ↦
          let stood : x ≡ get_or xs k x = sym read ∙ get_or-set_other xs i k last x (λ e. omega (arith, below, e)) in
          (k, slice_get_read xs (length xs) k x refl (omega (arith, short)) stood, λ le. absurd (omega (arith, below, le)))
      | inr (inr above) ↦
          let stood : x ≡ get_or xs k x = sym read ∙ get_or-set_other xs i k last x (λ e. omega (arith, above, e)) in
          (k, slice_get_read xs (length xs) k x refl (omega (arith, short)) stood, λ _. above)
    ]

-- keys that are equal are equal to the same keys
same_key : {K : Type 0} {eq : K → K → Bool} (laws : IsEquivalence eq) (key q x : K) → eq q x ≡ true → eq key x ≡ eq key q
same_key laws key q x h = laws.symm key x ∙ sym (laws.congr q x key h) ∙ laws.symm q key

module _ {K V : Type 0} {eq : K → K → Bool} (laws : IsEquivalence eq) where
  -- equal keys find the same
  pub find_same : (key q : K) → eq key q ≡ true → (base : Base K V) → find eq base q ≡ find eq base key
  find_same key q h [] = refl
  find_same key q h (e ∷ es) = rw (laws.congr key q e.0 h, find_same key q h es) refl

  -- what stands at each key after a change
  pub find-changed_at : (key : K) (change : V × ℕ → V × ℕ) (q : K) (base : Base K V) → find eq (changed_at eq base key change) q ≡ cond (eq key q) (option_map change (find eq base q)) (find eq base q)
  find-changed_at key change q [] = cond_same (eq key q) None
  find-changed_at key change q (e ∷ es) = grind (arith, common_steps, same_key, some_cond, (find-changed_at key change q es))

  -- a change of what stands there, and of nothing else
  pub sets-changed_at : (key : K) (change : V × ℕ → V × ℕ) (base : Base K V) (entry : V × ℕ) → find eq base key ≡ Some entry → SetsOnly eq base (changed_at eq base key change) key (Some (change entry))
  sets-changed_at key change base entry found q = grind (arith, common_steps, find-changed_at, find_same)

  -- a renewal that gives something back sets the entry of the key alone
  pub renewed : (key : K) (entry : V × ℕ) (before : V) (old new : Base K V) → Some before ≡ option_map (λ e. e.0) (find eq old key) → new ≡ changed_at eq old key (λ _. entry)
      → (was : V × ℕ) × (find eq old key ≡ Some was) × SetsOnly eq old new key (Some entry)
  renewed key entry before old new stood is =
      let (was, found) = given_back (λ (e : V × ℕ). e.0) (find eq old key) before stood in
      (was, found, subst (λ (b : Base K V). SetsOnly eq old b key (Some entry)) (sym is) (sets-changed_at key (λ _. entry) old was found))

  -- a renewal that gives nothing back leaves all as it was
  pub renewed-none : (key : K) (entry : V × ℕ) (old new : Base K V) → None ≡ option_map (λ e. e.0) (find eq old key) → new ≡ changed_at eq old key (λ _. entry) → new ≡ old
  renewed-none key entry old new none is = is ∙ changed_at-absent eq key (λ _. entry) old (found_none (λ (e : V × ℕ). e.0) (find eq old key) none)

  -- the tail of a base has not the key of its head
  absent_behind : (key : K) (e : K × (V × ℕ)) (es : Base K V) → HasDistinctKeys eq (e ∷ es) → eq key e.0 ≡ true → find eq es key ≡ None
  absent_behind key e es distinct is = lookup-none (eq key) es (none_past_head laws key e es distinct is)

  -- changes that agree on what stands there are the same
  pub changed_at-agrees : (key : K) (change change' : V × ℕ → V × ℕ) (base : Base K V) → HasDistinctKeys eq base
      → ((entry : V × ℕ) → find eq base key ≡ Some entry → change entry ≡ change' entry)
      → changed_at eq base key change ≡ changed_at eq base key change'
  changed_at-agrees key change change' [] distinct agree = refl
  changed_at-agrees key change change' (e ∷ es) distinct agree = by_head (eq key e.0) refl (λ k. changed_at-agrees key change change' es (IsDistinct-tail eq e.0 (keys_of es) distinct) k) where
    by_head : (b : Bool) → eq key e.0 ≡ b
        → (((entry : V × ℕ) → find eq es key ≡ Some entry → change entry ≡ change' entry) → changed_at eq es key change ≡ changed_at eq es key change')
        → changed_at eq (e ∷ es) key change ≡ changed_at eq (e ∷ es) key change'
    by_head true is others =
        let none = absent_behind key e es distinct is in
        let here : find eq (e ∷ es) key ≡ Some e.1 = rw is refl in
        rw (is, changed_at-absent eq key change es none, changed_at-absent eq key change' es none, agree e.1 here) refl
    by_head false is others =
        let behind : find eq (e ∷ es) key ≡ find eq es key = rw is refl in
        rw (is, others (λ entry h. agree entry (behind ∙ h))) refl

  -- a change as std's write of a new value
  pub changed_at-set_value : (key : K) (change : V × ℕ → V × ℕ) (base : Base K V) (entry : V × ℕ) → HasDistinctKeys eq base → find eq base key ≡ Some entry → changed_at eq base key change ≡ set_value (eq key) base (change entry)
  changed_at-set_value key change [] entry distinct found = refl
  changed_at-set_value key change (e ∷ es) entry distinct found = grind (arith, common_steps, IsDistinct-tail, changed_at-absent, absent_behind, (changed_at-set_value key change es entry (IsDistinct-tail eq e.0 (keys_of es) distinct)))

  -- the first key is another than one further on
  pub apart_before : (e : K × (V × ℕ)) (es : Base K V) (i : ℕ) (key : K) (entry : V × ℕ) → HasDistinctKeys eq (e ∷ es) → slice_get es i ≡ Some (key, entry) → eq key e.0 ≡ false
  apart_before e es i key entry distinct at = laws.symm key e.0 ∙ all_at (λ y. eq e.0 y ≡ false) (keys_of es) i key (IsDistinct-head eq e.0 (keys_of es) distinct) (key_at es i key entry at)

  -- a change by the key that stands at a place
  pub changed_at-place : (change : V × ℕ → V × ℕ) (base : Base K V) (i : ℕ) (key : K) (entry : V × ℕ) → HasDistinctKeys eq base → slice_get base i ≡ Some (key, entry)
      → changed_at eq base key change ≡ slice_set base i (key, change entry)
  changed_at-place change [] i key entry distinct at = absurd cc
  changed_at-place change (e ∷ es) zero key entry distinct at = grind (arith, common_steps, changed_at-absent, absent_behind)
  changed_at-place change (e ∷ es) (suc i) key entry distinct at =
      rw (apart_before e es i key entry distinct at, changed_at-place change es i key entry (IsDistinct-tail eq e.0 (keys_of es) distinct) at) refl

  -- the entry of a place is taken out where the last comes to its place
  pub swapped_out : (base : Base K V) (i : ℕ) (e : K × (V × ℕ)) → HasDistinctKeys eq base → slice_get base i ≡ Some e
      → HasDistinctKeys eq (swap_remove base i e) × SetsOnly eq base (swap_remove base i e) e.0 None
  swapped_out base i e distinct at = (IsDistinct-tail eq e.0 (keys_of left) both, λ q. by_key (eq e.0 q) refl) where
    left : Base K V
    left = swap_remove base i e

    moves : IsPermutation base (e ∷ left)
    moves = IsPermutation-swap_remove base i e (slice_get_within base i e at) (sym (get_or_from_slice_get base i e e at))

    both : HasDistinctKeys eq (e ∷ left)
    both = IsDistinct-IsPermutation eq laws.symm (keys_of base) (keys_of (e ∷ left)) (IsPermutation-map (λ (x : K × (V × ℕ)). x.0) base (e ∷ left) moves) distinct

    by_key : {q : K} (b : Bool) → eq e.0 q ≡ b → find eq left q ≡ cond b None (find eq base q)
    by_key {q} true is = absent_behind q e left both (laws.symm q e.0 ∙ is)
    by_key {q} false is =
        let behind : find eq (e ∷ left) q ≡ find eq left q = rw (laws.symm q e.0 ∙ is) refl in
        sym behind ∙ lookup_permutation laws base (e ∷ left) moves both (eq q) (laws.congr q)

module _ {A : Type 0} (f : A → A) where
  -- a walk that has changed the front of a list changes what stands at its place
  pub walk_step : (xs : List A) (i : ℕ) (x : A) → slice_get xs i ≡ Some x → slice_set (map f (take i xs) ++ drop i xs) i (f x) ≡ map f (take (i + 1) xs) ++ drop (i + 1) xs
  walk_step xs i x at = rw add-one (steps xs i x at) where
    steps : (ys : List A) (j : ℕ) (y : A) → slice_get ys j ≡ Some y → slice_set (map f (take j ys) ++ drop j ys) j (f y) ≡ map f (take (suc j) ys) ++ drop (suc j) ys
    steps [] j y h = absurd cc
    steps (z ∷ zs) zero y h = let is : z ≡ y = cc in rw is refl
    steps (z ∷ zs) (suc j) y h = ap (λ (l : List A). f z ∷ l) (steps zs j y h)

  -- what stands at the place of a walk is as it was
  pub walk_at : (xs : List A) (i : ℕ) → i ≤ length xs → slice_get (map f (take i xs) ++ drop i xs) i ≡ slice_get xs i
  walk_at xs zero h = refl
  walk_at [] (suc i) h = refl
  walk_at (x ∷ xs) (suc i) h = walk_at xs i (omega arith)

-- a walk over the places that changes each entry in turn
pub walk_changed : {K V : Type 0} {eq : K → K → Bool} (laws : IsEquivalence eq) (f : V × ℕ → V × ℕ) (before now after : Base K V) (i : ℕ) (key : K) (entry : V × ℕ)
    → now ≡ map (λ e. (e.0, f e.1)) (take i before) ++ drop i before → i ≤ length before → slice_get now i ≡ Some (key, entry) → HasDistinctKeys eq now → after ≡ changed_at eq now key f
    → after ≡ map (λ e. (e.0, f e.1)) (take (i + 1) before) ++ drop (i + 1) before
walk_changed {K} {V} {eq} laws f before now after i key entry so_far within at distinct changed =
    let F : K × (V × ℕ) → K × (V × ℕ) = λ e. (e.0, f e.1) in
    let stood : slice_get before i ≡ Some (key, entry) = sym (walk_at F before i within) ∙ ap (λ (l : Base K V). slice_get l i) (sym so_far) ∙ at in
    changed ∙ changed_at-place laws f now i key entry distinct at ∙ ap (λ (l : Base K V). slice_set l i (key, f entry)) so_far ∙ walk_step F before i (key, entry) stood
