-- That rows ascend by their nodes: it is one fact, none and one do, and one more before the first.
use Rattle.std.proofs.Common.{◌≡◌, ℕ, zero, suc, ◌<◌, inl, inr, ap, subst, sym, ◌∙◌, List, [], ◌∷◌}
use Rattle.std.proofs.Math.Arith.{lt-one}
use Rattle.std.proofs.Math.Nat.{lt_irrefl, lt_trans, not-suc-le-zero, le_of_suc-le-suc, zero-lt-suc}
use Rattle.std.specs.Prelude.{AllPairs, slice_index_or}
use Rattle.std.specs.Coded.{le_prop, Coded-set, coded_ℕ, ×_prop}
use Rattle.mesh_atoms.specs.declared.addr.NetAddr.{NetAddr}
use Rattle.mesh_atoms.specs.Nodes.{IsBefore}

-- a number isn't below one that it equals
not_both : (m n : ℕ) → m < n → m ≡ n → ⊥
not_both m n less same = lt_irrefl n (subst (λ (k : ℕ). k < n) same less)

-- that a node stands before another is one fact: no two reasons for it differ
pub before_prop : (a b : NetAddr) → IsProp (IsBefore a b)
before_prop a b (inl x) (inl y) = ap (λ (z : a.addr.0 < b.addr.0). inl z) (le_prop x y)
before_prop a b (inl x) (inr y) = absurd (not_both a.addr.0 b.addr.0 x y.0)
before_prop a b (inr x) (inl y) = absurd (not_both a.addr.0 b.addr.0 y x.0)
before_prop a b (inr x) (inr y) = ap (λ (z : (a.addr.0 ≡ b.addr.0) × (a.prefix < b.prefix)). inr z) (×_prop (Coded-set coded_ℕ _ _) le_prop x y)

-- and that rows ascend is one fact
pub ascends_prop : {X : Type 0} (node : X → NetAddr) (rows : List X) → IsProp (AllPairs (λ r t. IsBefore (node r) (node t)) rows)
ascends_prop node rows up up' = λ k i j d before within.
    before_prop (node (slice_index_or rows i d)) (node (slice_index_or rows j d)) (up i j d before within) (up' i j d before within) k

-- no rows ascend
pub none_ascend : {X : Type 0} (node : X → NetAddr) → AllPairs (λ r t. IsBefore (node r) (node t)) []
none_ascend node i j d before within = absurd (not-suc-le-zero within)

-- one row does
pub one_ascends : {X : Type 0} (node : X → NetAddr) (row : X) → AllPairs (λ r t. IsBefore (node r) (node t)) (row ∷ [])
one_ascends node row i j d before within = absurd (not-suc-le-zero (subst (λ (k : ℕ). i < k) (lt-one within) before))

-- what stands before a node stands before all behind it
pub before_trans : (a b c : NetAddr) → IsBefore a b → IsBefore b c → IsBefore a c
before_trans a b c (inl x) (inl y) = inl (lt_trans x y)
before_trans a b c (inl x) (inr y) = inl (subst (λ (k : ℕ). a.addr.0 < k) y.0 x)
before_trans a b c (inr x) (inl y) = inl (subst (λ (k : ℕ). k < c.addr.0) (sym x.0) y)
before_trans a b c (inr x) (inr y) = inr (x.0 ∙ y.0, lt_trans x.1 y.1)

-- with one row more, whose node stands before that of the first, they ascend still
pub more_ascend : {X : Type 0} (node : X → NetAddr) (a b : X) (rest : List X) → IsBefore (node a) (node b) →
    AllPairs (λ r t. IsBefore (node r) (node t)) (b ∷ rest) → AllPairs (λ r t. IsBefore (node r) (node t)) (a ∷ b ∷ rest)
more_ascend node a b rest first up zero zero d before within = absurd (not-suc-le-zero before)
more_ascend node a b rest first up (suc i) zero d before within = absurd (not-suc-le-zero before)
more_ascend node a b rest first up zero (suc zero) d before within = first
more_ascend node a b rest first up zero (suc (suc j)) d before within =
    before_trans (node a) (node b) (node (slice_index_or rest j d)) first (up zero (suc j) d (zero-lt-suc j) (le_of_suc-le-suc within))
more_ascend node a b rest first up (suc i) (suc j) d before within = up i j d (le_of_suc-le-suc before) (le_of_suc-le-suc within)
