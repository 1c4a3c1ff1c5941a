-- Rows of a map that are a tree are a certificate, and those are that an ended search has settled.
use Rattle.mesh_paths.proofs.Common.{◌≡◌, ℕ, zero, suc, ◌+◌, inl, inr, refl, sym, ap, subst, arith, List, [], ◌∷◌, Contains, slice_index_or, Some, keys_of, values_of, eq_by_cmp, BTreeMap, eq_by_cmp_equiv, All-found, Contains-from_lookup, lookup-from_Contains, NetAddr, IsBefore, net_cmp, Arc4, Graph, PathRow, net_total, net_exact, net_less, is_equal, HasCosts, AreAscendingRows, IsCertificate, OffersBy, OffersTo, MeetsBy, MeetsRow, IsTree, IsSettledRow, IsKeyed, contains_tail as in_tail, contains_cases}
use Rattle.std.specs.List.Sorted.{IsStrictlySortedBy}
use Rattle.std.specs.BTreeMap as tree
use Rattle.std.proofs.lemmas.Map.Keys.{IsDistinct-from_sorted}
use Rattle.mesh_paths.proofs.Rows.{move_offer}
use Rattle.mesh_paths.proofs.SearchLaw.{offers_more, meets_more}
use Rattle.mesh_paths.proofs.TreeLaw.{certificate_of_tree}

value_in : (es : List (NetAddr × PathRow)) (q : NetAddr) (r : PathRow) → Contains es (q, r) → Contains (values_of es) r
value_in [] q r has = absurd (omega (arith, has.1))
value_in (e ∷ es) q r has = elim (contains_cases e es (q, r) has) [
  | inl same ↦ (0, omega arith, ap (λ (x : NetAddr × PathRow). x.1) same)
  | inr later ↦ in_tail e.1 (values_of es) r (value_in es q r later)
]

key_of : (es : List (NetAddr × PathRow)) (r : PathRow) → Contains (values_of es) r → (q : NetAddr) × Contains es (q, r)
key_of [] r has = absurd (omega (arith, has.1))
key_of (e ∷ es) r has = elim (contains_cases e.1 (values_of es) r has) [
  | inl same ↦ (e.0, (0, omega arith, ap (λ (x : PathRow). (e.0, x)) same))
  | inr later ↦ let (q, found) = key_of es r later in (q, in_tail e es (q, r) found)
]

ascending_of : (es : List (NetAddr × PathRow)) → IsStrictlySortedBy net_cmp (keys_of es) → ((e : NetAddr × PathRow) → Contains es e → e.1.node ≡ e.0) → AreAscendingRows (values_of es)
unfolding IsStrictlySortedBy
ascending_of [] up keyed k d l = absurd (omega arith)
ascending_of (e ∷ []) up keyed k d l = absurd (omega arith)
ascending_of (e ∷ f ∷ es) up keyed zero d l =
    let before : IsBefore e.0 f.0 = net_less e.0 f.0 up.0.0 in
    let one : IsBefore e.1.node f.0 = subst (λ (n : NetAddr). IsBefore n f.0) (sym (keyed e (0, omega arith, refl))) before in
    subst (λ (n : NetAddr). IsBefore e.1.node n) (sym (keyed f (1, omega arith, refl))) one
ascending_of (e ∷ f ∷ es) up keyed (suc k) d l =
    let later : IsBefore (slice_index_or (values_of (f ∷ es)) k d).node (slice_index_or (values_of (f ∷ es)) (k + 1) d).node =
    ascending_of (f ∷ es) up.1 (λ x has. keyed x (in_tail e (f ∷ es) x has)) k d (omega arith) in
    let next : suc k + 1 ≡ suc (k + 1) = omega arith in
    rw next later

module _ (m : BTreeMap NetAddr PathRow) (keyed : IsKeyed m) (ordered : tree.IsOrdered net_cmp m) where
  listed : (r : PathRow) → IsSettledRow m r → Contains (values_of m.entries) r
  listed r has = value_in m.entries r.node r (Contains-from_lookup {eq = eq_by_cmp net_cmp} (λ x y e. net_exact x y (is_equal (net_cmp x y) e)) r.node r m.entries has)

  settled : (r : PathRow) → Contains (values_of m.entries) r → IsSettledRow m r
  settled r has =
      let (q, found) = key_of m.entries r has in
      let at : tree.get net_cmp m q ≡ Some r = lookup-from_Contains {eq = eq_by_cmp net_cmp} (eq_by_cmp_equiv net_total) q r m.entries (IsDistinct-from_sorted net_cmp (keys_of m.entries) ordered) found in
      subst (λ (n : NetAddr). tree.get net_cmp m n ≡ Some r) (sym (keyed q r at)) at

  in_order : AreAscendingRows (values_of m.entries)
  in_order = ascending_of m.entries ordered (λ e (k, l, is).
      let at : tree.get net_cmp m e.0 ≡ Some e.1 = subst (λ (x : NetAddr × PathRow). tree.get net_cmp m x.0 ≡ Some x.1) is (All-found net_total m ordered k e l) in
      keyed e.0 e.1 at)

  -- rows that meet what the start and the arcs from them offer, and are offered, are a tree
  module _ (arcs : List Arc4) (from : NetAddr) (start : MeetsBy (IsSettledRow m) from 0 from)
      (met : (r : PathRow) (a : Arc4) → IsSettledRow m r → Contains arcs a → a.from ≡ r.node → MeetsBy (IsSettledRow m) a.to (r.metric + a.metric) r.node)
      (offered : (r : PathRow) → IsSettledRow m r → OffersBy (IsSettledRow m) arcs from r.node r.metric r.parent) where
    closed : (node : NetAddr) (metric : ℕ) (parent : NetAddr) → OffersTo arcs from (values_of m.entries) node metric parent → MeetsRow (values_of m.entries) node metric parent
    closed node metric parent offer = elim offer [
      | inl (n, c, p) ↦ move_offer (values_of m.entries) from node 0 metric from parent n c p (meets_more from 0 from listed start)
      | inr (r, a, has, there, begins, ends, sum, p) ↦ move_offer (values_of m.entries) a.to node (r.metric + a.metric) metric r.node parent ends sum p
          (meets_more a.to (r.metric + a.metric) r.node listed (met r a (settled r has) there begins))
    ]

    pub tree_found : IsTree arcs from (values_of m.entries)
    tree_found = record {
      ascending = in_order;
      closed = closed;
      grounded = λ r has. offers_more arcs from r.node r.metric r.parent listed (offered r (settled r has));
    }

-- a tree of the graph's arcs is its certificate
pub certificate_of_rows : (g : Graph) (from : NetAddr) → HasCosts g → (arcs : List Arc4) (tree : List PathRow) → arcs ≡ g.arcs → IsTree arcs from tree → (rows : List PathRow) → rows ≡ tree → IsCertificate g from (record { rows = rows })
certificate_of_rows g from costs arcs tree is found rows e =
    let one : IsTree g.arcs from tree = subst (λ (x : List Arc4). IsTree x from tree) is found in
    let two : IsTree g.arcs from rows = subst (λ (x : List PathRow). IsTree g.arcs from x) (sym e) one in
    certificate_of_tree g from costs (record { rows = rows }) two
