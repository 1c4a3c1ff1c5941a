-- Least addresses, and hops by the pairs of the radio graph.
use Rattle.mesh_settled.proofs.Common.{common_steps, ◌≡◌, ℕ, ◌+◌, ◌<◌, ◌≤◌, inl, inr, refl, sym, ◌∙◌, ap, subst, arith, List, [], Option, Some, None, Bool, true, false, nat_eq, length, slice_get, Contains, ◌↔◌, IsTrue, is_some, option_map, false≢true, eqb-true, eq-eqb, cases_eq, none-some, slice_get_within, Bor, Addr4, Pair, RadioGraph, Metric, RouterSettings, Scenario, IsValue, Joins, IsRadioGraph, At, IsLeastAddress, State, HasAddressOn, HasAddress, Joint, IsLeastMissing, IsBack, IsLeastOf, IsJointBy, IsJointWith, IsOfSome, joins_back, contains_none, contains_at, place_of as place_in, no as never, same_some}

pub least_in : (settings : RouterSettings) (i : ℕ) (list : List Addr4) (o : Option Addr4) → ((a : Addr4) → Contains list a ↔ HasAddressOn settings i a) →
    IsLeastMissing (λ a. Contains list a) [] o → IsValue (IsLeastAddress settings i) o
least_in settings i list None on least = λ a h. contains_none a (least a ((on a).1 h.0))
least_in settings i list (Some b) on least = ((on b).0 least.0, λ a h. least.2 a ((on a).1 h) (contains_none a))

pub value_some : {A : Type 0} (P : A → Type 0) (o : Option A) (a : A) → o ≡ Some a → IsValue P o → P a
value_some P o a e v = grind (arith, common_steps, none-some, same_some)

pub value_none : {A : Type 0} (P : A → Type 0) (o : Option A) → o ≡ None → IsValue P o → (a : A) → P a → ⊥
value_none P o e v = grind (arith, common_steps, none-some)

pub one_least : (settings : RouterSettings) (i : ℕ) (least a : Addr4) → IsLeastAddress settings i least → IsTrue (nat_eq least.0 a.0) ↔ IsLeastAddress settings i a
one_least settings i least a is = (
  λ e. subst (IsLeastAddress settings i) (ap (λ (n : ℕ). let r : Addr4 = record { 0 = n } in r) (eqb-true least.0 a.0 e)) is,
  λ other. eq-eqb least.0 a.0 (let low = is.1 a other.0 in let high = other.1 least is.0 in omega arith),
)

-- what the look-up of a router finds
module _ {A : Type 0} (f : A → State) {states : List State} {y : ℕ} {o : Option (Bor A)} (is : option_map (λ (r : Bor A). f r.now) o ≡ slice_get states y) where
  pub router_found : {r : Bor A} → o ≡ Some r → At states y (f r.now)
  router_found some = record { is = sym is ∙ ap (option_map (λ (r : Bor A). f r.now)) some }

pub same_state : {states : List State} {y : ℕ} {p q : State} → At states y p → At states y q → p ≡ q
same_state at at' = same_some at.is at'.is

pub least_there : (states : List State) (y j : ℕ) (p : State) (a : Addr4) (b : Bool) → At states y p → (settings : RouterSettings) → settings ≡ p.settings →
    IsTrue b ↔ IsLeastAddress settings j a → IsTrue b ↔ IsLeastOf states y j a
least_there states y j p a b at settings same test = (
  λ e. (p, at, subst (λ (r : RouterSettings). IsLeastAddress r j a) same (test.0 e)),
  λ w. test.1 (subst (λ (r : RouterSettings). IsLeastAddress r j a) (ap (λ (q : State). q.settings) (same_state w.1 at) ∙ sym same) w.2),
)

-- Hops
module _ (s : Scenario) (g : RadioGraph) (is : IsRadioGraph s g) (states : List State) (x i : ℕ) (a : Addr4) where
  abbrev pair_of : Joint → Pair
  pair_of joint = record { from = x; from_iface = i; to = joint.to; to_iface = joint.iface; metric = joint.there }

  pub joins_by : (pair : Pair) (m : Metric) → Contains g.pairs pair → IsBack g.pairs pair m → Joins s pair.from pair.from_iface pair.to pair.to_iface pair.metric m
  joins_by pair m there back =
      let first = ((is.pairs pair).0 there).1 in
      let second = ((is.pairs _).0 back).1 in
      record { out = first.out; home = second.out; out_admitted = first.out_admitted; home_admitted = second.out_admitted }

  joint_there : (pair : Pair) (joint : Joint) → Contains g.pairs pair → IsJointBy states g.pairs x i a pair joint → IsJointWith s states x i a joint
  joint_there pair joint there by =
      let joins : Joins s pair.from pair.from_iface pair.to pair.to_iface pair.metric joint.back = joins_by pair joint.back there by.back in
      (rw (← by.from, ← by.from_iface, by.to, by.iface, by.there) joins, rw (by.to, by.iface) by.least)

  of_joint : (joint : Joint) → IsJointWith s states x i a joint → IsOfSome (IsJointBy states g.pairs x i a) g.pairs joint
  of_joint joint with =
      let there = (is.pairs (pair_of joint)).1 (joint.back, with.0) in
      let back = (is.pairs (record { from = joint.to; from_iface = joint.iface; to = x; to_iface = i; metric = joint.back })).1 (joint.there, joins_back with.0) in
      (pair_of joint, there, record { from = refl; from_iface = refl; to = refl; iface = refl; there = refl; back = back; least = with.1 })

  pub joint_found : (o : Option Joint) → IsValue (IsOfSome (IsJointBy states g.pairs x i a) g.pairs) o → IsValue (IsJointWith s states x i a) o
  joint_found None none = λ joint with. none joint (of_joint joint with)
  joint_found (Some joint) some = joint_there some.0 joint some.1 some.2

-- Places in order

-- what holds of each place before this one and of this one holds of each before the next
pub next_place : (Q : ℕ → Type 0) (i : ℕ) → ((k : ℕ) → k < i → Q k) → Q i → (k : ℕ) → k < i + 1 → Q k
next_place Q i before here k less = elim (cases_eq k i) [ inl same ↦ subst Q (sym same) here | inr other ↦ before k (omega (arith, less, other)) ]

pub denied : {P : Type 0} {b : Bool} → IsTrue b ↔ P → b ≡ false → P → ⊥
denied test e p = false≢true (sym e ∙ test.1 p)

pub one_not : (P : ℕ → Type 0) (i : ℕ) (b : Bool) → IsTrue b ↔ P i → b ≡ false → ((k : ℕ) → k < i → P k → ⊥) → (k : ℕ) → k < i + 1 → P k → ⊥
one_not P i b test no_more before = next_place (λ k. P k → ⊥) i before (denied test no_more)

-- Tests of each element
module _ {A : Type 0} (P : A → Type 0) (list : List A) where
  -- none of those that stand before place i meets it
  abbrev pub NoBefore : ℕ → Type 0
  NoBefore i = (k : ℕ) → k < i → (e : A) → slice_get list k ≡ Some e → P e → ⊥

  pub no_more : (i : ℕ) (e : A) → slice_get list i ≡ Some e → (P e → ⊥) → NoBefore i → NoBefore (i + 1)
  no_more i e at none before = next_place (λ k. (f : A) → slice_get list k ≡ Some f → P f → ⊥) i before (λ f there p. none (subst P (same_some there at) p))

  pub none_in : (i : ℕ) → length list ≤ i → NoBefore i → (a : A) → Contains list a → P a → ⊥
  none_in i end before a has p = let at = place_in list a has in before at.0 (omega (arith, at.1, end)) a at.2 p

  pub none_here : (i : ℕ) → length list ≤ i → NoBefore i → IsTrue false ↔ ((a : A) × Contains list a × P a)
  none_here i end before = never (λ w. none_in i end before w.0 w.1 w.2)

-- Pairs that lead back
module _ (pairs : List Pair) (pair : Pair) where
  abbrev pub LeadsBack : Pair → Type 0
  LeadsBack back = (back.from ≡ pair.to) × (back.from_iface ≡ pair.to_iface) × (back.to ≡ pair.from) × (back.to_iface ≡ pair.from_iface)

-- Searches
module _ {A B : Type 0} (P : A → B → Type 0) (list : List A) where
  abbrev Gives : A → Type 0
  Gives e = (r : B) × P e r

  -- what stands before place i gives nothing
  abbrev pub NoneBefore : ℕ → Type 0
  NoneBefore = NoBefore Gives list

  pub found_one : (i : ℕ) (e : A) (o : Option B) → slice_get list i ≡ Some e → true ≡ is_some o → IsValue (P e) o → IsValue (IsOfSome P list) o
  found_one i e o at some value = grind (arith, common_steps, contains_at)

  pub none_one : (i : ℕ) (e : A) (o : Option B) → slice_get list i ≡ Some e → false ≡ is_some o → IsValue (P e) o → NoneBefore i → NoneBefore (i + 1)
  none_one i e o at some value = grind (arith, common_steps, no_more)

  pub none_found : (i : ℕ) → length list ≤ i → NoneBefore i → IsValue (IsOfSome P list) None
  none_found i end before = λ r w. none_in Gives list i end before w.0 w.1 (r, w.2)

-- Addresses of all interfaces

pub on_face : (settings : RouterSettings) (i : ℕ) (addrs : List Addr4) (b : Bool) (a : Addr4) → ((c : Addr4) → Contains addrs c ↔ HasAddressOn settings i c) → IsTrue b ↔ Contains addrs a → IsTrue b ↔ HasAddressOn settings i a
on_face settings i addrs b a on test = (λ e. (on a).0 (test.0 e), λ h. test.1 ((on a).1 h))

pub one_face : (settings : RouterSettings) (a : Addr4) (i : ℕ) (b : Bool) → IsTrue b ↔ HasAddressOn settings i a → b ≡ true → IsTrue true ↔ HasAddress settings a
one_face settings a i b test e = (λ _. (i, test.0 e), λ _. refl)

pub no_face : (settings : RouterSettings) (a : Addr4) (i : ℕ) → length settings.interfaces ≤ i → ((k : ℕ) → k < i → HasAddressOn settings k a → ⊥) → IsTrue false ↔ HasAddress settings a
no_face settings a i end before = never (λ h. let less = slice_get_within settings.interfaces h.0 h.1.0 h.1.1 in before h.0 (omega arith) h.1)
