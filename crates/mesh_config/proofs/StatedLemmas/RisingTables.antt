-- Tables of which each has a number above that of the one before.
use Rattle.mesh_config.proofs.Common.{common_steps, ◌≡◌, ℕ, ◌+◌, ◌<◌, ◌≤◌, List, [], ◌∷◌, ◌++◌, map, true, false, Bool, nat_lt, if◌then◌else◌, Option, Some, None, Ok, refl, ap, ◌∙◌, sym, length, get_or, drop, arith, list_all, and_from, lt-ltb, Data, Members, view, Value, are_ascending, ConfigFault, Fault, ReadValue, first, visit, FailsAt, ticks, Each, table_of, element_visits, no_less, numbered_visits, one_above, rising_visits}
use Rattle.mesh_config.proofs.KeysLemmas.Elements.{drop_here}
use Rattle.mesh_config.proofs.StatedLemmas.Elements.{first_passes, fails_first}

-- one table after the other
module _ (visits : ℕ → Members → List (Option Fault)) (number : Members → ReadValue ℕ) (key : List ℕ) where
  pub rising_fail : (vs : List Value) (i least : ℕ) (v : Value) (e : ConfigFault) → v ≡ get_or vs i v → i < length vs
      → FailsAt e (first (element_visits (visits least) key (view v))) → FailsAt e (first (rising_visits visits number key least (map view (drop i vs))))
  rising_fail vs i least v e here within h = grind (arith, common_steps, drop_here, fails_first)

  pub rising_pass : (vs : List Value) (i least n : ℕ) (v : Value) → v ≡ get_or vs i v → i < length vs
      → first (element_visits (visits least) key (view v)) ≡ None → number (table_of (view v)) ≡ Ok n
      → first (rising_visits visits number key least (map view (drop i vs))) ≡ first (rising_visits visits number key (n + 1) (map view (drop (i + 1) vs)))
  rising_pass vs i least n v here within h numbered = grind (arith, common_steps, drop_here, first_passes)

-- no fault in two lists
none_both : (a b : List (Option Fault)) → first (a ++ b) ≡ None → (first a ≡ None) × (first b ≡ None)
none_both [] b h = (refl, h)
none_both (None ∷ a) b h = none_both a b h
none_both (Some f ∷ a) b h = absurd cc

-- an element without a fault is a table without one
none_within : (visits : Members → List (Option Fault)) (key : List ℕ) (d : Data) → first (element_visits visits key d) ≡ None → first (visits (table_of d)) ≡ None
none_within visits key d h = grind (arith, common_steps)

-- the number of a table without a fault
pub record Numbered (least : ℕ) (read : ReadValue ℕ) : Type 0 where
  pub number : ℕ
  pub is_read : read ≡ Ok number
  pub no_less : least ≤ number

unless_some : (b : Bool) (f : Fault) → (if b then Some f else None) ≡ None → b ≡ false
unless_some b f h = grind (arith, common_steps)

number_of : (least : ℕ) (key : List ℕ) (read : ReadValue ℕ) → visit read ≡ None → no_less least key read ≡ None → Numbered least read
number_of least key read h k = grind (arith, common_steps, no_less, unless_some)

pub numbered : {A : Type 0} (key : List ℕ) (number : Members → ReadValue ℕ) (other : List ℕ) (value : Members → ReadValue A) (least : ℕ) (t : Members) → first (numbered_visits key number other value least t) ≡ None → Numbered least (number t)
numbered key number other value least t h = grind (arith, common_steps, none_both, visit, no_less, number_of)

-- what they stand for ascends, where each stands at a place that rises with the number of its table
module _ {X : Type 0} (Is : Members → X → Type 0) (visits : ℕ → Members → List (Option Fault)) (number : Members → ReadValue ℕ) (key : List ℕ) (place : X → ℕ) (turn : ℕ → ℕ)
    (rises : (m n : ℕ) → m < n → turn m < turn n) (placed : (t : Members) (x : X) (n : ℕ) → number t ≡ Ok n → Is t x → place x ≡ turn n)
    (read : (least : ℕ) (t : Members) → first (visits least t) ≡ None → Numbered least (number t)) where
  above : (m least : ℕ) (ds : List Data) (xs : List X) → m < least → first (rising_visits visits number key least ds) ≡ None → Each Is ds xs → list_all (nat_lt (turn m)) (map place xs) ≡ true
  above m least [] [] less none all = refl
  above m least [] (x ∷ xs) less none all = absurd all
  above m least (d ∷ ds) [] less none all = absurd all
  above m least (d ∷ ds) (x ∷ xs) less none all =
      let parts = none_both (element_visits (visits least) key d) (rising_visits visits number key (one_above (number (table_of d))) ds) none in
      let n = read least (table_of d) (none_within (visits least) key d parts.0) in
      let at : place x ≡ turn n.number = placed (table_of d) x n.number n.is_read all.0 in
      let rest : first (rising_visits visits number key (n.number + 1) ds) ≡ None =
      sym (ap (λ (r : ReadValue ℕ). first (rising_visits visits number key (one_above r) ds)) n.is_read) ∙ parts.1 in
      and_from (nat_lt (turn m) (place x)) (list_all (nat_lt (turn m)) (map place xs))
      (rw at (lt-ltb (turn m) (turn n.number) (rises m n.number (omega (arith, less, n.no_less)))))
      (above m (n.number + 1) ds xs (omega (arith, less, n.no_less)) rest all.1)

  pub rising_ascends : (least : ℕ) (ds : List Data) (xs : List X) → first (rising_visits visits number key least ds) ≡ None → Each Is ds xs → are_ascending (map place xs) ≡ true
  rising_ascends least [] [] none all = refl
  rising_ascends least [] (x ∷ xs) none all = absurd all
  rising_ascends least (d ∷ ds) [] none all = absurd all
  rising_ascends least (d ∷ ds) (x ∷ xs) none all =
      let parts = none_both (element_visits (visits least) key d) (rising_visits visits number key (one_above (number (table_of d))) ds) none in
      let n = read least (table_of d) (none_within (visits least) key d parts.0) in
      let at : place x ≡ turn n.number = placed (table_of d) x n.number n.is_read all.0 in
      let rest : first (rising_visits visits number key (n.number + 1) ds) ≡ None =
      sym (ap (λ (r : ReadValue ℕ). first (rising_visits visits number key (one_above r) ds)) n.is_read) ∙ parts.1 in
      and_from (list_all (nat_lt (place x)) (map place xs)) (are_ascending (map place xs))
      (rw at (above n.number (n.number + 1) ds xs (omega arith) rest all.1))
      (rising_ascends (n.number + 1) ds xs rest all.1)

-- a millisecond later is at least a tick later
pub ticks_rise : (m n : ℕ) → m < n → ticks m < ticks n
ticks_rise m n less = omega (arith, less)
