-- The order of networks by which maps keep their keys.
use Rattle.mesh_atoms.proofs.Common.{arith, common_steps, ◌≡◌, ◌⊎◌, true, IsTotalOrder, then_total, on_total, nat_cmp_total, ranked, NetAddr, IsBefore, net_cmp}
use Rattle.std.specs.Ordering.{ordering_then, is_eq}
use Rattle.std.specs.declared.cmp.Ordering.{Ordering}
use Rattle.std.specs.declared.cmp.Ordering.TheVariants.{Less, Equal}
use Rattle.std.proofs.lemmas.Map.Lookups.{CmpEqualImpliesEq, exact_unsigned}
use Rattle.mesh_atoms.proofs.Nets.{same_net}

pub net_total : IsTotalOrder net_cmp
net_total = then_total (on_total (λ (a : NetAddr). a.addr.0) nat_cmp_total) (on_total (λ (a : NetAddr). a.prefix) nat_cmp_total)

pub then_equal : (o p : Ordering) → ordering_then o p ≡ Equal → (o ≡ Equal) × (p ≡ Equal)
then_equal o p e = grind (arith, common_steps)

pub then_less : (o p : Ordering) → ordering_then o p ≡ Less → (o ≡ Less) ⊎ ((o ≡ Equal) × (p ≡ Less))
then_less o p e = grind (arith, common_steps)

pub is_equal : (o : Ordering) → is_eq o ≡ true → o ≡ Equal
is_equal o e = grind (arith, common_steps)

pub net_exact : CmpEqualImpliesEq net_cmp
net_exact a b e = grind (arith, common_steps, then_equal, same_net, exact_unsigned)

pub net_less : (a b : NetAddr) → net_cmp a b ≡ Less → IsBefore a b
net_less a b e = grind (arith, common_steps, then_less, ranked)

-- what compares equal is the same, and the other way round
pub same_at : (a b : NetAddr) → is_eq (net_cmp a b) ≡ true → a ≡ b
same_at a b e = net_exact a b (is_equal (net_cmp a b) e)

pub at_same : (a b : NetAddr) → a ≡ b → is_eq (net_cmp a b) ≡ true
at_same a b e = grind (arith, common_steps, net_total)
