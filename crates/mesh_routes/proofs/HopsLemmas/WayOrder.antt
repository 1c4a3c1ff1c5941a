-- The order of ways, and what a range of ways begins with.
use Rattle.mesh_routes.proofs.Common.{◌≡◌, ◌≢◌, ℕ, ◌<◌, ◌≤◌, ◌⊎◌, inl, inr, sym, ◌∙◌, ap, subst, arith, true, false, List, [], ◌∷◌, Contains, common_steps, nat_cmp, ordering_then, is_gt, Ordering, Less, Equal, IsTotalOrder, BTreeSet, then_total, on_total, nat_cmp_total, ranked, CmpEqualImpliesEq, exact_unsigned, btree_set_contains_iff, Addr4, then_equal, NeighbourLink, way_cmp, IsNoWorse, IsBestLink, IsCutOff, same_addr}
use Rattle.std.specs.declared.ops.Bound.TheVariants.{Included, Unbounded}
use Rattle.std.specs.BTreeSet as sorted

pub way_total : IsTotalOrder way_cmp
way_total = then_total (on_total (λ (a : NeighbourLink). a.originator.0) nat_cmp_total)
    (then_total (on_total (λ (a : NeighbourLink). a.metric) nat_cmp_total) (then_total (on_total (λ (a : NeighbourLink). a.iface) nat_cmp_total) (on_total (λ (a : NeighbourLink). a.next.0) nat_cmp_total)))

pub way_exact : CmpEqualImpliesEq way_cmp
way_exact a b e = grind (arith, common_steps, then_equal, same_addr, exact_unsigned)

then_upto : (o p : Ordering) → is_gt (ordering_then o p) ≡ false → (o ≡ Less) ⊎ ((o ≡ Equal) × (is_gt p ≡ false))
then_upto o p e = grind (arith, common_steps)

-- of two numbers that are compared first, the one is less, or they are the same and what is compared next decides
number_upto : (a b : ℕ) (p : Ordering) → is_gt (ordering_then (nat_cmp a b) p) ≡ false → (a < b) ⊎ ((a ≡ b) × (is_gt p ≡ false))
number_upto a b p e = grind (arith, common_steps, then_upto, ranked)

last_upto : (a b : ℕ) (o : Ordering) → o ≡ nat_cmp a b → is_gt o ≡ false → a ≤ b
last_upto a b o e f = grind (arith, common_steps, ranked)

-- which of two ways in order is the better
upto_originator : (a b : NeighbourLink) → is_gt (way_cmp a b) ≡ false → a.originator.0 ≤ b.originator.0
upto_originator a b e = elim (number_upto a.originator.0 b.originator.0 _ e) [ inl l ↦ omega arith | inr (l, _) ↦ omega arith ]

upto_no_worse : (a b : NeighbourLink) → a.originator ≡ b.originator → is_gt (way_cmp a b) ≡ false → IsNoWorse a b
upto_no_worse a b same e = grind (arith, common_steps, number_upto, last_upto)

number_then : (a b : ℕ) (o p : Ordering) → o ≡ nat_cmp a b → a ≤ b → is_gt p ≡ false → is_gt (ordering_then o p) ≡ false
number_then a b o p e l f = grind (arith, common_steps, ranked)

last_then : (a b : ℕ) (o : Ordering) → o ≡ nat_cmp a b → a ≤ b → is_gt o ≡ false
last_then a b o e l = grind (arith, common_steps, ranked)

-- the way to a neighbour whose numbers are 0 is no greater than another to it
least_upto : (a b : NeighbourLink) → a.originator ≡ b.originator → a.metric ≡ 0 → a.iface ≡ 0 → a.next.0 ≡ 0 → is_gt (way_cmp a b) ≡ false
least_upto a b same metric iface next = grind (arith, common_steps, number_then, last_then)

-- The ways from the least of a neighbour on
module _ (s : BTreeSet NeighbourLink) (lo : NeighbourLink) (originator : Addr4) (r : List NeighbourLink) (part : sorted.IsKeyRangeOf way_cmp (Included lo) Unbounded s r)
    (from : lo.originator ≡ originator) (metric : lo.metric ≡ 0) (iface : lo.iface ≡ 0) (next : lo.next.0 ≡ 0) where
  least_of : (way : NeighbourLink) → way.originator ≡ originator → is_gt (way_cmp lo way) ≡ false
  least_of way is = least_upto lo way (from ∙ sym is) metric iface next

  found : (way : NeighbourLink) → Contains s.keys way → sorted.contains way_cmp s way ≡ true
  found way has = (btree_set_contains_iff way_total way_exact s way).1 has

  pub range_none : r ≡ [] → IsCutOff s.keys originator
  range_none none way has is =
      let t : sorted.contains way_cmp s way ≡ true = found way has in
      let f : sorted.contains way_cmp s way ≡ false = part.5 none way (least_of way is, tt) in
      (cc)

  module _ (k : NeighbourLink) (t : List NeighbourLink) (e : r ≡ k ∷ t) where
    front : sorted.IsKeyRangeOf way_cmp (Included lo) Unbounded s (k ∷ t)
    front = subst (λ (x : List NeighbourLink). sorted.IsKeyRangeOf way_cmp (Included lo) Unbounded s x) e part

    pub range_best : k.originator ≡ originator → IsBestLink s.keys originator k
    range_best leads = record {
      stands = (btree_set_contains_iff way_total way_exact s k).0 (front.0 0 k (omega arith)).1;
      leads = leads;
      best = λ v has is. upto_no_worse k v (leads ∙ sym is) (front.2 v (least_of v is, tt) (found v has));
    }

    pub range_first : k.originator ≢ originator → IsCutOff s.keys originator
    range_first off v has is =
        let above : lo.originator.0 ≤ k.originator.0 = upto_originator lo k (front.0 0 k (omega arith)).0.0 in
        let below : k.originator.0 ≤ v.originator.0 = upto_originator k v (front.2 v (least_of v is, tt) (found v has)) in
        let a : lo.originator.0 ≡ originator.0 = ap (λ (o : Addr4). o.0) from in
        let b : v.originator.0 ≡ originator.0 = ap (λ (o : Addr4). o.0) is in
        off (same_addr k.originator originator (omega arith))
