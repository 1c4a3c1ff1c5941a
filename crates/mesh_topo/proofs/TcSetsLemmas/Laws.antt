-- What a TC does to one set of tuples.
use Rattle.mesh_topo.proofs.Common.{common_steps, ◌≡◌, ℕ, ◌+◌, ◌<◌, ◌≤◌, ◌⊎◌, inl, inr, Bool, true, false, cond, not, ◌&&◌, List, length, take, Option, Some, None, IfSome, slice_index_or, refl, sym, ap, subst, ◌∙◌, arith, eq-eqb, option_map, slice_get, nat_eq, is_some, count_by, IsTrue, ◌↔◌, BTreeSet, IsEquivalence, Ordering, cases_Bool, count_by_more_yes, count_by_more_no, slice_get-get_or, slice_get_within, get_or_from_slice_get, Addr4, Metric, Tc, TcRow, Base, find, SetsOnly, addr_eq, if_not_dropped, Becomes, BecomesSet, Given, Left, AreKeys, find_same, SaysSame, TupleKind, given, GivenBy, GivenBefore, PutsGiven, PutsRows, Put, Stood}
use Rattle.std.proofs.lemmas.Option.{option_and_then_some}

-- ---- rows that are put one after the other

module _ {R K V : Type 0} (given : R → Option (K × V)) (rows : List R) where
  -- one place more
  before_more : (i : ℕ) (key : K) (value : V) → GivenBefore given rows i key value → GivenBefore given rows (i + 1) key value
  before_more i key value (k, row, lt, at, is) = (k, row, omega arith, at, is)

  -- the row at the last place, or one before
  before_last : (i : ℕ) (row : R) (key : K) (value : V) → slice_get rows i ≡ Some row → GivenBefore given rows (i + 1) key value → (given row ≡ Some (key, value)) ⊎ GivenBefore given rows i key value
  before_last i row key value here h5 = grind (arith, common_steps)

-- what is put at one key
at_key : {V : Type 0} (b : Bool) (value : V) (until : ℕ) (old new : Option (V × ℕ)) → new ≡ cond b (Some (value, until)) old → ((b ≡ true) × (new ≡ Some (value, until))) ⊎ ((b ≡ false) × (new ≡ old))
at_key b value until old new e = grind (arith, common_steps)

module _ {R K V : Type 0} {eq : K → K → Bool} (laws : IsEquivalence eq) (exact : (a b : K) → eq a b ≡ true → a ≡ b) (given : R → Option (K × V)) (until : ℕ) (rows : List R) where
  -- a row that gives nothing for the key leaves what stood
  stands_on : (i : ℕ) (row : R) (q : K) (old now new : Option (V × ℕ)) → slice_get rows i ≡ Some row → ((value : V) → given row ≡ Some (q, value) → ⊥) →
      PutsRows given until rows i q old now → new ≡ now → PutsRows given until rows (i + 1) q old new
  stands_on i row q old now new here none (Put value before is) same = Put value (before_more given rows i q value before) (same ∙ is)
  stands_on i row q old now new here none (Stood not is) same = Stood (λ value before. elim (before_last given rows i row q value here before) [
    | inl now ↦ none value now
    | inr earlier ↦ not value earlier
  ]) (same ∙ is)

  pub puts_more : (i : ℕ) (row : R) (gives : Option (K × V)) (before now after : Base K V) → slice_get rows i ≡ Some row → gives ≡ given row →
      ((q : K) → PutsRows given until rows i q (find eq before q) (find eq now q)) → PutsGiven eq gives until now after →
      (q : K) → PutsRows given until rows (i + 1) q (find eq before q) (find eq after q)
  puts_more i row None before now after here is so_far puts q =
      stands_on i row q (find eq before q) (find eq now q) (find eq after q) here (λ value e. let none : None ≡ Some (q, value) = is ∙ e in absurd cc) (so_far q) (puts q)
  puts_more i row (Some (key, value)) before now after here is so_far puts q = elim (at_key (eq key q) value until (find eq now q) (find eq after q) (puts q)) [
    | inl (same, e) ↦
        let key_is : key ≡ q = exact key q same in
        Put value (i, row, omega arith, here, sym is ∙ ap (λ (k : K). Some (k, value)) key_is) e
    | inr (apart, e) ↦
        stands_on i row q (find eq before q) (find eq now q) (find eq after q) here (λ other gives.
        let both : Some (key, value) ≡ Some (q, other) = is ∙ gives in
        let key_is : key ≡ q = ap (λ (p : K × V). p.0) (let e' : (key, value) ≡ (q, other) = cc in e') in
        let itself : eq key q ≡ true = subst (λ (k : K). eq key k ≡ true) key_is (laws.refl key) in
        absurd cc) (so_far q) e
  ]

-- the element at a place of an equal list
pub at_place : {R : Type 0} (xs rows : List R) (i : ℕ) (row : R) → xs ≡ rows → i < length xs → row ≡ slice_index_or xs i row → slice_get rows i ≡ Some row
at_place xs rows i row same lt is = subst (λ (ys : List _). slice_get ys i ≡ Some row) same (slice_get-get_or xs i row lt ∙ ap Some (sym is))

-- one more may be put where the row gives something
pub count_more : {R A : Type 0} (given : R → Option A) (rows : List R) (i : ℕ) (row : R) (gives : Option A) (before now after : ℕ) → slice_get rows i ≡ Some row → gives ≡ given row →
    now ≤ before + count_by (λ r. is_some (given r)) (take i rows) → after ≤ now + cond (is_some gives) 1 0 → after ≤ before + count_by (λ r. is_some (given r)) (take (i + 1) rows)
count_more given rows i row gives before now after here is so_far puts =
    let within : i < length rows = slice_get_within rows i row here in
    let at : slice_index_or rows i row ≡ row = get_or_from_slice_get rows i row row here in
    let tested : is_some (given (slice_index_or rows i row)) ≡ is_some gives = ap (λ (r : _). is_some (given r)) at ∙ ap is_some (sym is) in
    elim (cases_Bool (is_some gives)) [
      | inl e ↦ omega (arith, so_far, rw e at puts, count_by_more_yes (λ r. is_some (given r)) rows i row within (tested ∙ e))
      | inr e ↦ omega (arith, so_far, rw e at puts, count_by_more_no (λ r. is_some (given r)) rows i row within (tested ∙ e))
    ]

-- ---- tuples that are taken out

-- what has the TC's number stays
kept_numbered : {V : Type 0} (tc : Tc) (from : Addr4) (number : V → ℕ) (value : V) (until : ℕ) → number value ≡ tc.ansn → if_not_dropped tc from number (Some (value, until)) ≡ Some (value, until)
kept_numbered {V} tc from number value until is = ap (λ (n : Bool). cond {A = Option (V × ℕ)} (addr_eq from tc.originator && (tc.complete && not n)) None (Some (value, until))) same ∙ by_case (addr_eq from tc.originator) tc.complete where
  same : nat_eq (number value) tc.ansn ≡ true
  same = eq-eqb (number value) tc.ansn is

  by_case : (a b : Bool) → cond {A = Option (V × ℕ)} (a && (b && not true)) None (Some (value, until)) ≡ Some (value, until)
  by_case true true = refl
  by_case true false = refl
  by_case false b = refl

-- ---- what is said

module _ {K V : Type 0} (eq : K → K → Bool) (says : V → Option ℕ × Metric) where
  pub same_after : (old mid new : Base K V) → SaysSame eq says old mid → SaysSame eq says mid new → SaysSame eq says old new
  same_after old mid new h k q = k q ∙ h q

  pub same_equal : (old new : Base K V) → new ≡ old → SaysSame eq says old new
  same_equal old new is q = ap (λ (b : Base K V). option_map (λ e. says e.0) (find eq b q)) is

  -- at the key stands what is put there
  says_put : (laws : IsEquivalence eq) (key : K) (value : V) (until : ℕ) (old new : Base K V) → SetsOnly eq old new key (Some (value, until)) → option_map (λ e. says e.0) (find eq new key) ≡ Some (says value)
  says_put laws key value until old new sets = grind (arith, common_steps)

  says_of : (o : Option (V × ℕ)) → option_map (λ e. says e.0) o ≡ option_map says (option_map (λ e. e.0) o)
  says_of o = grind (arith, common_steps)

  -- all say the same where the tuple that is put says what the one before said
  pub put_same : (laws : IsEquivalence eq) (exact : (a b : K) → eq a b ≡ true → a ≡ b) (key : K) (before value : V) (until : ℕ) (old new : Base K V) (same : Bool)
      → Some before ≡ option_map (λ e. e.0) (find eq old key) → (IsTrue same ↔ (says before ≡ says value)) → SetsOnly eq old new key (Some (value, until)) → (not same ≡ false) ↔ SaysSame eq says old new
  put_same laws exact key before value until old new same stood is sets = grind (arith, common_steps, says_of, says_put)

-- ---- the set of the keys

-- a new tuple at a key that has one leaves the set of the keys as it is
pub keys_held : {K V : Type 0} {eq : K → K → Bool} (laws : IsEquivalence eq) (cmp : K → K → Ordering) (key : K) (entry : V × ℕ) (keys : BTreeSet K) (base base' : Base K V)
    → true ≡ is_some (find eq base key) → SetsOnly eq base base' key (Some entry) → AreKeys eq cmp keys base → AreKeys eq cmp keys base'
keys_held {eq = eq} laws cmp key entry keys base base' held sets are q = are q ∙ by_key (eq key q) refl ∙ ap is_some (sym (sets q)) where
  by_key : (b : Bool) → eq key q ≡ b → is_some (find eq base q) ≡ is_some (cond b (Some entry) (find eq base q))
  by_key true is = ap is_some (find_same laws key q is base) ∙ sym held
  by_key false is = refl

-- ---- what a row gives

-- the number of the tuple is the TC's
numbered_pair : {K V : Type 0} (number : V → ℕ) (ansn : ℕ) (k key : K) (o : Option V) (value : V) → IfSome o (λ tuple. number tuple ≡ ansn) → option_map {U = K × V} (λ tuple. (k, tuple)) o ≡ Some (key, value) → number value ≡ ansn
numbered_pair number ansn k key o value is gives = grind (arith, common_steps)

pub given_numbered : {K V : Type 0} (kind : TupleKind K V) (from : Addr4) (ansn : ℕ) (row : TcRow) (key : K) (value : V) → given kind from ansn row ≡ Some (key, value) → kind.number value ≡ ansn
given_numbered kind from ansn row key value gives = option_and_then_some _ row.metric (key, value) gives (λ metric _ is.
    numbered_pair kind.number ansn (kind.key_to from row.dest) key (kind.by_row ansn metric row) value (kind.numbered ansn metric row) is)

-- ---- all of it

-- a row of the TC is a row before its length
pub given_all : {K V : Type 0} (given : Addr4 → ℕ → _ → Option (K × V)) (tc : Tc) (key : K) (value : V) → GivenBy given tc key value → GivenBefore (given tc.originator tc.ansn) tc.rows (length tc.rows) key value
given_all given tc key value (row, (k, lt, at), is) = (k, row, lt, slice_get-get_or tc.rows k row lt ∙ ap Some at, is)

pub all_given : {K V : Type 0} (given : Addr4 → ℕ → _ → Option (K × V)) (tc : Tc) (key : K) (value : V) → GivenBefore (given tc.originator tc.ansn) tc.rows (length tc.rows) key value → GivenBy given tc key value
all_given given tc key value (k, row, lt, at, is) = (row, (k, lt, get_or_from_slice_get tc.rows k row row at), is)

-- what the rows give, and then what is left
pub becomes : {K V : Type 0} (given : Addr4 → ℕ → _ → Option (K × V)) (tc : Tc) (until : ℕ) (from : K → Addr4) (number : V → ℕ) (key : K) (old mid new : Option (V × ℕ)) → ((value : V) → GivenBy given tc key value → number value ≡ tc.ansn) →
    PutsRows (given tc.originator tc.ansn) until tc.rows (length tc.rows) key old mid → new ≡ if_not_dropped tc (from key) number mid → Becomes tc until from number (GivenBy given tc) key old new
becomes given tc until from number key old mid new numbered (Put value before is) left =
    let gives : GivenBy given tc key value = all_given given tc key value before in
    Given value gives (left ∙ ap (if_not_dropped tc (from key) number) is ∙ kept_numbered tc (from key) number value until (numbered value gives))
becomes given tc until from number key old mid new numbered (Stood not is) left = Left (λ value gives. not value (given_all given tc key value gives)) (left ∙ ap (if_not_dropped tc (from key) number) is)

-- what gives a tuple, in other words
becomes_by : {K V : Type 0} (tc : Tc) (until : ℕ) (from : K → Addr4) (number : V → ℕ) (G G' : K → V → Type 0) (key : K) (old new : Option (V × ℕ)) → ((value : V) → G key value → G' key value) → ((value : V) → G' key value → G key value) →
    Becomes tc until from number G key old new → Becomes tc until from number G' key old new
becomes_by tc until from number G G' key old new there back (Given value gives is) = Given value (there value gives) is
becomes_by tc until from number G G' key old new there back (Left not is) = Left (λ value gives. not value (back value gives)) is

pub set_by : {K V : Type 0} (eq : K → K → Bool) (tc : Tc) (until : ℕ) (from : K → Addr4) (number : V → ℕ) (G G' : K → V → Type 0) (old new : Base K V) → ((key : K) (value : V) → G key value → G' key value) → ((key : K) (value : V) → G' key value → G key value) →
    BecomesSet eq tc until from number G old new → BecomesSet eq tc until from number G' old new
set_by eq tc until from number G G' old new there back set = record {
  distinct = set.distinct;
  at = λ key. becomes_by tc until from number G G' key (find eq old key) (find eq new key) (there key) (back key) (set.at key);
}
