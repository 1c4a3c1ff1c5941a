-- Steps of the test of a certificate.
use Rattle.mesh_paths.proofs.Common.{◌≡◌, ◌↔◌, ℕ, ◌+◌, inl, inr, refl, sym, ◌∙◌, subst, Bool, true, false, IsTrue, List, length, Contains, ◌<◌, ◌≤◌, slice_index_or, arith, AllWithin, All-contains, AllWithin-more, at_read, NetAddr, Arc4, PathRow, AreAscendingRows, IsStart, OffersTo, IsAsGood, MeetsRow, IsArcMet, IsStep, IsReached, IsClosed}
use Rattle.mesh_paths.proofs.Order.{single}

-- Answers

pub yes : {P : Type 0} → P → IsTrue true ↔ P
yes p = (λ _. p, λ _. refl)

pub no : {P : Type 0} → (P → ⊥) → IsTrue false ↔ P
no never = (λ e. absurd (cc), λ p. absurd (never p))

pub carry : {P Q : Type 0} (b : Bool) → (P → Q) → (Q → P) → IsTrue b ↔ P → IsTrue b ↔ Q
carry b to back h = (λ e. to (h.0 e), λ q. h.1 (back q))

-- the item of a loop is an element of its list
pub item_in : {A : Type 0} (xs : List A) (i : ℕ) (x : A) → x ≡ slice_index_or xs i x → i < length xs → Contains xs x
item_in xs i x is l = (i, l, sym is)

-- what holds of each place of a list holds of each element
pub of_each : {A : Type 0} (P : A → Type 0) (xs : List A) (i : ℕ) → length xs ≤ i → AllWithin P xs 0 i → (x : A) → Contains xs x → P x
of_each P xs i end h x has = All-contains P xs x (λ k d l. h k d (omega arith) (omega arith)) has

-- a loop's step: the item passes
pub seen : {A : Type 0} (P : A → Type 0) (xs : List A) (i : ℕ) (x : A) (b : Bool) → x ≡ slice_index_or xs i x → IsTrue b ↔ P x → b ≡ true → i < length xs → AllWithin P xs 0 i → AllWithin P xs 0 (i + 1)
seen P xs i x b is h e l before = AllWithin-more P xs 0 i before (at_read xs P i x l is (h.0 e))

-- a loop's end: the item does not pass
pub missed : {A : Type 0} (P : A → Type 0) (xs : List A) (i : ℕ) (x : A) (b : Bool) → x ≡ slice_index_or xs i x → IsTrue b ↔ P x → b ≡ false → i < length xs → ((y : A) → Contains xs y → P y) → ⊥
missed P xs i x b is h e l all = let t : b ≡ true = h.1 (all x (item_in xs i x is l)) in (cc)

-- Rows

pub move_offer : (rows : List PathRow) (n n' : NetAddr) (m m' : ℕ) (p p' : NetAddr) → n ≡ n' → m ≡ m' → p ≡ p' → MeetsRow rows n m p → MeetsRow rows n' m' p'
move_offer rows n n' m m' p p' en em ep met =
    let one : MeetsRow rows n' m p = subst (λ (x : NetAddr). MeetsRow rows x m p) en met in
    let two : MeetsRow rows n' m' p = subst (λ (x : ℕ). MeetsRow rows n' x p) em one in
    subst (λ (x : NetAddr). MeetsRow rows n' m' x) ep two

-- the row of the node decides whether an offer is met
pub good_of_met : (rows : List PathRow) → AreAscendingRows rows → (row : PathRow) (node : NetAddr) (metric : ℕ) (parent : NetAddr) → Contains rows row → row.node ≡ node → MeetsRow rows node metric parent → IsAsGood row metric parent
good_of_met rows up row node metric parent has is (r, has_r, is_r, good) =
    subst (λ (x : PathRow). IsAsGood x metric parent) (single rows up r row has_r has (is_r ∙ sym is)) good

-- the row of its first node decides whether an arc is met
pub arc_met : (rows : List PathRow) → AreAscendingRows rows → (row : PathRow) (arc : Arc4) (cost : ℕ) (b : Bool) → Contains rows row → row.node ≡ arc.from → cost ≡ row.metric + arc.metric →
    IsTrue b ↔ MeetsRow rows arc.to cost row.node → IsTrue b ↔ IsArcMet rows arc
arc_met rows up row arc cost b has is sum h = (
  λ e r has_r is_r.
      let met : MeetsRow rows arc.to (row.metric + arc.metric) row.node = subst (λ (x : ℕ). MeetsRow rows arc.to x row.node) sum (h.0 e) in
      subst (λ (x : PathRow). MeetsRow rows arc.to (x.metric + arc.metric) x.node) (single rows up row r has has_r (is ∙ sym is_r)) met,
  λ met. h.1 (subst (λ (x : ℕ). MeetsRow rows arc.to x row.node) (sym sum) (met row has is)),
)

pub arc_of_closed : (arcs : List Arc4) (from : NetAddr) (rows : List PathRow) → IsClosed arcs from rows → (arc : Arc4) → Contains arcs arc → IsArcMet rows arc
arc_of_closed arcs from rows closed arc there r has e = closed arc.to (r.metric + arc.metric) r.node (inr (r, arc, has, there, sym e, refl, refl, refl))

pub closed_of_arcs : (arcs : List Arc4) (from : NetAddr) (rows : List PathRow) → MeetsRow rows from 0 from → ((arc : Arc4) → Contains arcs arc → IsArcMet rows arc) → IsClosed arcs from rows
closed_of_arcs arcs from rows start each node metric parent offer = elim offer [
  | inl (n, m, p) ↦ move_offer rows from node 0 metric from parent n m p start
  | inr (r, a, has, there, begins, ends, sum, p) ↦ move_offer rows a.to node (r.metric + a.metric) metric r.node parent ends sum p (each a there r has (sym begins))
]

-- the row of the parent decides whether a row is reached
pub arc_of_reached : (arcs : List Arc4) (rows : List PathRow) → AreAscendingRows rows → (parent row : PathRow) → Contains rows parent → parent.node ≡ row.parent → IsReached arcs rows row → (arc : Arc4) × Contains arcs arc × IsStep parent row arc
arc_of_reached arcs rows up parent row has is (p, has_p, is_p, step) =
    subst (λ (x : PathRow). (arc : Arc4) × Contains arcs arc × IsStep x row arc) (single rows up p parent has_p has (is_p ∙ sym is)) step

pub offers_reached : (arcs : List Arc4) (from : NetAddr) (rows : List PathRow) (row : PathRow) → IsReached arcs rows row → OffersTo arcs from rows row.node row.metric row.parent
offers_reached arcs from rows row (p, has, is, (arc, there, (begins, ends, sum))) = inr (p, arc, has, there, begins, ends, sum, is)

-- a row that is not the start's is offered only by an arc
pub reached_offers : (arcs : List Arc4) (from : NetAddr) (rows : List PathRow) (row : PathRow) (b : Bool) → IsTrue b ↔ IsStart from row.node row.metric row.parent → b ≡ false → OffersTo arcs from rows row.node row.metric row.parent → IsReached arcs rows row
reached_offers arcs from rows row b test not offer = elim offer [
  | inl start ↦ let t : b ≡ true = test.1 start in absurd (cc)
  | inr (p, arc, has, there, begins, ends, sum, is) ↦ (p, has, is, (arc, there, (begins, ends, sum)))
]
