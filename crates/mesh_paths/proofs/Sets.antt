-- The order of steps, and what a change of a set or of a map says of its elements.
use Rattle.mesh_paths.proofs.Common.{common_steps, ◌≡◌, ◌↔◌, ℕ, ◌+◌, ◌≤◌, ◌⊎◌, inl, inr, refl, sym, ◌∙◌, ap, arith, Bool, true, false, cond, IsTrue, length, Contains, Some, None, nat_cmp, ordering_then, is_eq, BTreeMap, cases_Bool, cond_both, then_total, on_total, nat_cmp_total, tied_itself, btree_set_contains_iff, NetAddr, net_cmp, PathRow, net_total, net_exact, then_equal, is_equal, SearchStep, step_cmp, PutsStep, IsSettledRow, IsKeyed, Settles, row_of}
use Rattle.std.specs.declared.cmp.Ordering.{Ordering}
use Rattle.std.specs.Cmp.{IsTotalOrder}
use Rattle.std.specs.BTreeMap as tree
use Rattle.std.specs.BTreeSet as sorted
use Rattle.std.specs.BTreeSet.{BTreeSet}
use Rattle.std.proofs.lemmas.Map.Lookups.{CmpEqualImpliesEq, exact_unsigned}

-- Orders

pub step_total : IsTotalOrder step_cmp
step_total = then_total (on_total (λ (a : SearchStep). a.metric) nat_cmp_total) (then_total (on_total (λ (a : SearchStep). a.node) net_total) (on_total (λ (a : SearchStep). a.parent) net_total))

pub step_exact : CmpEqualImpliesEq step_cmp
step_exact a b e =
    let (f, rest) = then_equal (nat_cmp a.metric b.metric) (ordering_then (net_cmp a.node b.node) (net_cmp a.parent b.parent)) e in
    let (g, h) = then_equal (net_cmp a.node b.node) (net_cmp a.parent b.parent) rest in
    ap (λ (m : ℕ). let r : SearchStep = record { metric = m; node = a.node; parent = a.parent } in r) (exact_unsigned a.metric b.metric f)
    ∙ ap (λ (n : NetAddr). let r : SearchStep = record { metric = b.metric; node = n; parent = a.parent } in r) (net_exact a.node b.node g)
    ∙ ap (λ (n : NetAddr). let r : SearchStep = record { metric = b.metric; node = b.node; parent = n } in r) (net_exact a.parent b.parent h)

-- Elements

module _ {K : Type 0} {cmp : K → K → Ordering} (o : IsTotalOrder cmp) (exact : CmpEqualImpliesEq cmp) where
  listed : (s : BTreeSet K) (k : K) → IsTrue (sorted.contains cmp s k) ↔ Contains s.keys k
  listed s k = btree_set_contains_iff o exact s k

  tied : (k : K) → is_eq (cmp k k) ≡ true
  tied k = ap is_eq (tied_itself o k)

  module _ (s n : BTreeSet K) (k : K) (at : (q : K) → sorted.contains cmp n q ≡ cond (is_eq (cmp k q)) true (sorted.contains cmp s q)) where
    pub added : Contains n.keys k
    added = (listed n k).0 (at k ∙ ap (λ (b : Bool). cond b true (sorted.contains cmp s k)) (tied k))

    pub stays : (q : K) → Contains s.keys q → Contains n.keys q
    stays q has = (listed n q).0 (at q ∙ cond_both (is_eq (cmp k q)) true (sorted.contains cmp s q) (λ x. x ≡ true) (λ e. refl) (λ e. (listed s q).1 has))

    pub came : (q : K) → Contains n.keys q → (q ≡ k) ⊎ Contains s.keys q
    came q has = elim (cases_Bool (is_eq (cmp k q))) [
      | inl e ↦ inl (sym (exact k q (is_equal (cmp k q) e)))
      | inr e ↦ inr ((listed s q).0 (sym (ap (λ (b : Bool). cond b true (sorted.contains cmp s q)) e) ∙ (sym (at q) ∙ (listed n q).1 has)))
    ]

pub puts_of : (s n : BTreeSet SearchStep) (step : SearchStep) → ((q : SearchStep) → sorted.contains step_cmp n q ≡ cond (is_eq (step_cmp step q)) true (sorted.contains step_cmp s q)) → length n.keys ≤ length s.keys + 1 → PutsStep s.keys step n.keys
puts_of s n step at more = record {
  has = added step_total step_exact s n step at;
  kept = stays step_total step_exact s n step at;
  cases = came step_total step_exact s n step at;
  more = more;
}

-- a change of the length
pub one_more : (b : Bool) (n m : ℕ) → n ≡ m + cond b 1 0 → n ≤ m + 1
one_more b n m e = grind (arith, common_steps)

-- Rows

module _ (m n : BTreeMap NetAddr PathRow) (step : SearchStep) (at : (q : NetAddr) → tree.get net_cmp n q ≡ cond (is_eq (net_cmp step.node q)) (Some (row_of step)) (tree.get net_cmp m q)) where
  here : (q : NetAddr) → is_eq (net_cmp step.node q) ≡ true → tree.get net_cmp n q ≡ Some (row_of step)
  here q e = at q ∙ ap (λ (b : Bool). cond b (Some (row_of step)) (tree.get net_cmp m q)) e

  there : (q : NetAddr) → is_eq (net_cmp step.node q) ≡ false → tree.get net_cmp n q ≡ tree.get net_cmp m q
  there q e = at q ∙ ap (λ (b : Bool). cond b (Some (row_of step)) (tree.get net_cmp m q)) e

  kept_at : tree.get net_cmp m step.node ≡ None → (r : PathRow) → IsSettledRow m r → IsSettledRow n r
  kept_at fresh r has = grind (arith, common_steps, cases_Bool, net_exact, is_equal, there)

  cases_at : (r : PathRow) → IsSettledRow n r → (row_of step ≡ r) ⊎ IsSettledRow m r
  cases_at r has = grind (arith, common_steps, cases_Bool, here, there)

  pub settles_of : tree.get net_cmp m step.node ≡ None → Settles (IsSettledRow m) (row_of step) (IsSettledRow n)
  settles_of fresh = grind (arith, common_steps, here, tied_itself, net_total, kept_at, cases_at)

  pub keyed_of : IsKeyed m → IsKeyed n
  keyed_of keyed node row has = elim (cases_Bool (is_eq (net_cmp step.node node))) [
    | inl e ↦
        let h : Some (row_of step) ≡ Some row = sym (here node e) ∙ has in
        let same : row_of step ≡ row = (cc) in
        ap (λ (x : PathRow). x.node) (sym same) ∙ net_exact step.node node (is_equal (net_cmp step.node node) e)
    | inr e ↦ keyed node row (sym (there node e) ∙ has)
  ]
