-- The moments of a table, in order, and at each the keys of the entries that end at it.
use Rattle.mesh_expire.proofs.Common.{common_steps, lt-ltb, le-ltb, eqb-true, ◌≡◌, ℕ, zero, suc, ◌+◌, ◌-◌, ◌<◌, ◌≤◌, arith, Bool, true, false, cond, ◌&&◌, List, [], ◌∷◌, ◌++◌, length, drop, take, Option, Some, None, refl, sym, ap, subst, ◌∙◌, nat_eq, if◌then◌else◌, is_some, option_map, slice_get, unwrap_or, nat_cmp, IsEquivalence, nat_eq_equiv, BTreeMap, get, is_at, set_value, lookup_from_place, Base, HasDistinctKeys, find, SetsOnly, Expires, IsFresh, if_live, once_if, times_in, times_at, PutsAt, TakesAt, is_moment, until_of, AreMomentsOf, IsIndexed, SetsMoment, changed_at, TakesExpired, none_is_some}
use Rattle.mesh_expire.proofs.Laws.{find_same, find-changed_at, changed_at-set_value, distinct-changed_at}

goes : (b e : Bool) (x : ℕ) → x ≡ cond e (once_if b) x → x - once_if (b && e) ≡ cond e 0 x
goes b e x h = grind (arith, common_steps)

-- what has a moment is an entry
found_moment : {V : Type 0} (entry : Option (V × ℕ)) (moment : ℕ) → 0 < once_if (is_moment (until_of entry) moment) → (value : V) × (entry ≡ Some (value, moment))
found_moment None moment h = absurd (omega (arith, h))
found_moment {V} (Some e) moment h = by_case (nat_eq e.1 moment) refl h where
  by_case : (b : Bool) → nat_eq e.1 moment ≡ b → 0 < once_if b → (value : V) × (◌≡◌ {A = Option (V × ℕ)} (Some e) (Some (value, moment)))
  by_case true is k = (e.0, ap (λ n. Some (e.0, n)) (eqb-true e.1 moment is))
  by_case false is k = absurd (omega (arith, k))

same_until : {V : Type 0} (x y : V × ℕ) → Some x ≡ Some y → x.1 ≡ y.1
same_until {V} x y h = let same : x ≡ y = cc in ap (λ (z : V × ℕ). z.1) same

gone : {V : Type 0} (now moment : ℕ) (value : V) → moment ≤ now → None ≡ if_live now (Some (value, moment))
gone now moment value h = rw (le-ltb now moment h) refl

module _ {K : Type 0} (eq : K → K → Bool) where
  -- a key behind a list
  pub times_push : (keys : List K) (key q : K) → times_in eq (keys ++ key ∷ []) q ≡ times_in eq keys q + once_if (eq key q)
  times_push [] key q = omega arith
  times_push (k ∷ ks) key q = omega (arith, times_push ks key q)

  -- two lists behind each other
  times_append : (xs ys : List K) (q : K) → times_in eq (xs ++ ys) q ≡ times_in eq xs q + times_in eq ys q
  times_append [] ys q = omega arith
  times_append (x ∷ xs) ys q = omega (arith, times_append xs ys q)

  -- a key, and those before and behind it
  times_split : (keys : List K) (i : ℕ) (key q : K) → slice_get keys i ≡ Some key → times_in eq (drop (suc i) keys) q + times_in eq (take i keys) q + once_if (eq key q) ≡ times_in eq keys q
  times_split [] i key q at = absurd cc
  times_split (k ∷ ks) zero key q at = let is : k ≡ key = cc in rw is (omega arith)
  times_split (k ∷ ks) (suc i) key q at = omega (arith, times_split ks i key q at)

  -- the key of a place goes, and those before it come behind
  pub times_turned : (keys : List K) (i : ℕ) (key q : K) → slice_get keys i ≡ Some key → times_in eq (drop (i + 1) keys ++ take i keys) q + once_if (eq key q) ≡ times_in eq keys q
  times_turned keys i key q at = grind (arith, common_steps, times_append, times_split)

  -- the first of the keys stands there
  pub first_stands : (laws : IsEquivalence eq) (keys : List K) (key : K) → slice_get keys 0 ≡ Some key → 0 < times_in eq keys key
  first_stands laws [] key at = absurd cc
  first_stands laws (k ∷ ks) key at = let is : k ≡ key = cc in rw (is, laws.refl key) (omega arith)

  -- at one moment the keys change, and at no other
  changes_at : (op : ℕ → ℕ → ℕ) (neutral : (x : ℕ) → op x 0 ≡ x) (old new : BTreeMap ℕ (List K)) (moment : ℕ) (key : K) (bucket : Option (List K))
      → ((m : ℕ) → get nat_cmp new m ≡ cond (is_at (nat_cmp moment) m) bucket (get nat_cmp old m))
      → ((q : K) → times_in eq (unwrap_or bucket []) q ≡ op (times_at eq old moment q) (once_if (eq key q)))
      → (m : ℕ) (q : K) → times_at eq new m q ≡ op (times_at eq old m q) (once_if (nat_eq moment m && eq key q))
  changes_at op neutral old new moment key bucket sets there m q = grind (arith, common_steps)

  -- the keys of a bucket
  at_bucket : (moments : BTreeMap ℕ (List K)) (moment : ℕ) (bucket : Option (List K)) (q : K) → bucket ≡ get nat_cmp moments moment → times_in eq (unwrap_or bucket []) q ≡ times_at eq moments moment q
  at_bucket moments moment bucket q is = ap (λ (o : Option (List K)). times_in eq (unwrap_or o []) q) is

  -- a key comes to a bucket
  pub puts_behind : (old new : BTreeMap ℕ (List K)) (moment : ℕ) (key : K) (keys : List K) → Some keys ≡ get nat_cmp old moment
      → ((m : ℕ) → get nat_cmp new m ≡ cond (is_at (nat_cmp moment) m) (Some (keys ++ key ∷ [])) (get nat_cmp old m)) → PutsAt eq old new moment key
  puts_behind old new moment key keys is sets =
      changes_at (λ x y. x + y) (λ x. omega arith) old new moment key (Some (keys ++ key ∷ [])) sets (λ q. times_push keys key q ∙ ap (λ n. n + once_if (eq key q)) (at_bucket old moment (Some keys) q is))

  -- a list of one key
  alone : (keys : List K) (key : K) → slice_get keys 0 ≡ Some key → length keys ≡ 1 → keys ≡ key ∷ []
  alone [] key at one = absurd cc
  alone (k ∷ []) key at one = let is : k ≡ key = cc in ap (λ x. x ∷ []) is
  alone (k ∷ l ∷ ls) key at one = absurd (omega (arith, one))

  -- the only key of a bucket goes with it
  pub takes_only : (old new : BTreeMap ℕ (List K)) (moment : ℕ) (key : K) (keys : List K) → get nat_cmp old moment ≡ Some keys → slice_get keys 0 ≡ Some key → length keys ≡ 1
      → ((m : ℕ) → get nat_cmp new m ≡ cond (is_at (nat_cmp moment) m) None (get nat_cmp old m)) → TakesAt eq old new moment key
  takes_only old new moment key keys is at one gone = grind (arith, common_steps, changes_at, at_bucket, alone)

  -- the moment of a key goes
  pub goes_out : (old new : BTreeMap ℕ (List K)) (key : K) (before : ℕ) → SetsMoment eq old old key (Some before) → TakesAt eq old new before key → SetsMoment eq old new key None
  goes_out old new key before was h m q = h m q ∙ goes (nat_eq before m) (eq key q) (times_at eq old m q) (was m q)

  module _ {V : Type 0} where
    -- a key's moment and its entry are set together
    pub tells_set : (old new : BTreeMap ℕ (List K)) (base base' : Base K V) (key : K) (entry : Option (V × ℕ)) → AreMomentsOf eq old base → SetsMoment eq old new key (until_of entry) → SetsOnly eq base base' key entry → AreMomentsOf eq new base'
    tells_set old new base base' key entry tells sets only m q =
        sets m q ∙ ap (λ n. cond (eq key q) (once_if (is_moment (until_of entry) m)) n) (tells m q) ∙ by_key (eq key q) ∙ ap (λ o. once_if (is_moment (until_of o) m)) (sym (only q)) where
          by_key : (e : Bool) → cond e (once_if (is_moment (until_of entry) m)) (once_if (is_moment (until_of (find eq base q)) m)) ≡ once_if (is_moment (until_of (cond e entry (find eq base q))) m)
          by_key true = refl
          by_key false = refl

    -- a key has the moment of its entry
    pub told : (laws : IsEquivalence eq) (moments : BTreeMap ℕ (List K)) (base : Base K V) (key : K) → AreMomentsOf eq moments base → SetsMoment eq moments moments key (until_of (find eq base key))
    told laws moments base key tells m q = by_key (eq key q) refl where
      by_key : (e : Bool) → eq key q ≡ e → times_at eq moments m q ≡ cond e (once_if (is_moment (until_of (find eq base key)) m)) (times_at eq moments m q)
      by_key true is = tells m q ∙ ap (λ o. once_if (is_moment (until_of o) m)) (find_same laws key q is base)
      by_key false is = refl

    -- an expired entry that goes changes nothing of what is live
    still_live : (laws : IsEquivalence eq) (now moment : ℕ) (value : V) (key : K) (old base base' : Base K V) → moment ≤ now → find eq base key ≡ Some (value, moment) → SetsOnly eq base base' key None
        → ((q : K) → if_live now (find eq base q) ≡ if_live now (find eq old q)) → (q : K) → if_live now (find eq base' q) ≡ if_live now (find eq old q)
    still_live laws now moment value key old base base' late found only live q = ap (if_live now) (only q) ∙ by_key (eq key q) refl ∙ live q where
      by_key : (e : Bool) → eq key q ≡ e → if_live now (cond e None (find eq base q)) ≡ if_live now (find eq base q)
      by_key true is = gone now moment value late ∙ ap (if_live now) (sym (find_same laws key q is base ∙ found))
      by_key false is = refl

    -- the entry of a place goes, and its moment with it
    pub goes_from_place : (laws : IsEquivalence eq) (old new : BTreeMap ℕ (List K)) (base base' : Base K V) (place : ℕ) (x : K × (V × ℕ)) → AreMomentsOf eq old base → HasDistinctKeys eq base → slice_get base place ≡ Some x
        → TakesAt eq old new x.1.1 x.0 → SetsOnly eq base base' x.0 None → AreMomentsOf eq new base'
    goes_from_place laws old new base base' place x tells distinct at taken only =
        let was : SetsMoment eq old old x.0 (Some x.1.1) = subst (λ (o : Option (V × ℕ)). SetsMoment eq old old x.0 (until_of o)) (lookup_from_place laws base place x.0 x.1 distinct at) (told laws old base x.0 tells) in
        tells_set old new base base' x.0 None tells (goes_out old new x.0 x.1.1 was taken) only

    module _ (laws : IsEquivalence eq) (old new : BTreeMap ℕ (List K)) (base base' : Base K V) (now : ℕ) (key : K) (tells : AreMomentsOf eq old base)
        (taken : (moment : ℕ) × (moment ≤ now) × (0 < times_at eq old moment key) × TakesAt eq old new moment key) where
      -- the key that goes is in the map
      taken_entry : (value : V) × (find eq base key ≡ Some (value, taken.0))
      taken_entry = found_moment (find eq base key) taken.0 (subst (λ n. 0 < n) (tells taken.0 key) taken.2)

      pub never_absent : None ≡ find eq base key → ⊥
      never_absent none = none_is_some (none ∙ taken_entry.1)

      -- with it one entry goes
      pub one_fewer : (few many : ℕ) (entry : Option (V × ℕ)) → entry ≡ find eq base key → few + (if is_some entry then 1 else 0) ≡ many → few < many
      one_fewer few many None is h = absurd (never_absent is)
      one_fewer few many (Some e) is h = omega (arith, h)

      -- a key goes, and with it its entry
      pub goes_with : SetsOnly eq base base' key None → AreMomentsOf eq new base'
      goes_with only =
          let was : SetsMoment eq old old key (Some taken.0) = subst (λ (o : Option (V × ℕ)). SetsMoment eq old old key (until_of o)) taken_entry.1 (told laws old base key tells) in
          tells_set old new base base' key None tells (goes_out old new key taken.0 was taken.3) only

      pub live_after : (first : Base K V) → SetsOnly eq base base' key None → ((q : K) → if_live now (find eq base q) ≡ if_live now (find eq first q)) → (q : K) → if_live now (find eq base' q) ≡ if_live now (find eq first q)
      live_after first only live = still_live laws now taken.0 taken_entry.0 key first base base' taken.1 taken_entry.1 only live

      pub takes_pair : (value : V) (until : ℕ) → Some (value, until) ≡ find eq base key → SetsOnly eq base base' key None → TakesExpired eq now key value base base'
      takes_pair value until is only =
          record { until = until; stood = sym is; late = rw (same_until (value, until) (taken_entry.0, taken.0) (is ∙ taken_entry.1)) taken.1; gone = only }

    -- the moment of an entry has its key
    stands : (moments : BTreeMap ℕ (List K)) (base : Base K V) (q : K) (value : V) (until : ℕ) → AreMomentsOf eq moments base → find eq base q ≡ Some (value, until) → 0 < times_at eq moments until q
    stands moments base q value until tells found =
        let one : times_at eq moments until q ≡ 1 = tells until q ∙ ap (λ o. once_if (is_moment (until_of o) until)) found ∙ ap once_if (nat_eq_equiv.refl until) in omega (arith, one)

    -- where no moment is past, no entry is expired
    pub all_live : (moments : BTreeMap ℕ (List K)) (base old : Base K V) (now : ℕ) → AreMomentsOf eq moments base → ((moment : ℕ) (key : K) → 0 < times_at eq moments moment key → now < moment)
        → ((q : K) → if_live now (find eq base q) ≡ if_live now (find eq old q)) → Expires eq now old base
    all_live moments base old now tells later live q = by_entry (find eq base q) refl ∙ live q where
      by_entry : (o : Option (V × ℕ)) → find eq base q ≡ o → find eq base q ≡ if_live now (find eq base q)
      by_entry None is = rw is refl
      by_entry (Some e) is = rw (is, lt-ltb now e.1 (later e.1 q (stands moments base q e.0 e.1 tells is))) refl

    pub none_expired : (moments : BTreeMap ℕ (List K)) (base : Base K V) (now : ℕ) → AreMomentsOf eq moments base
        → ((moment : ℕ) (key : K) → 0 < times_at eq moments moment key → now < moment) → IsFresh eq now base
    none_expired moments base now tells later q value until found = lt-ltb now until (later until q (stands moments base q value until tells found))

    -- what is written to the record of a key
    pub written : (laws : IsEquivalence eq) (base new : Base K V) (key : K) (change : V × ℕ → V × ℕ) (entry : V × ℕ) → HasDistinctKeys eq base → find eq base key ≡ Some entry → new ≡ set_value (eq key) base (change entry) → new ≡ changed_at eq base key change
    written laws base new key change entry distinct found h = h ∙ sym (changed_at-set_value laws key change base entry distinct found)

    same_moment : (value : V) (e : Bool) (o : Option (V × ℕ)) → until_of o ≡ until_of (cond e (option_map (λ x. (value, x.1)) o) o)
    same_moment value true None = refl
    same_moment value true (Some x) = refl
    same_moment value false o = refl

    -- another record leaves the moments and the keys
    pub still_indexed : (laws : IsEquivalence eq) (moments : BTreeMap ℕ (List K)) (base new : Base K V) (key : K) (value : V) → IsIndexed eq moments base → new ≡ changed_at eq base key (λ e. (value, e.1)) → IsIndexed eq moments new
    still_indexed laws moments base new key value indexed h = record {
      tells = λ m q. indexed.tells m q ∙ ap (λ o. once_if (is_moment o m)) (same_moment value (eq key q) (find eq base q) ∙ ap until_of (sym (find-changed_at laws key (λ e. (value, e.1)) q base)) ∙ ap (λ (l : Base K V). until_of (find eq l q)) (sym h));
      distinct = rw h (distinct-changed_at eq key (λ e. (value, e.1)) base indexed.distinct);
    }
