-- The order of turns.
use Rattle.mesh_routes.proofs.Common.{◌≡◌, ℕ, ◌≤◌, ◌∙◌, ap, arith, common_steps, nat_cmp, ordering_then, Less, IsTotalOrder, then_total, on_total, nat_cmp_total, ranked, CmpEqualImpliesEq, exact_unsigned, NetAddr, net_cmp, net_total, net_exact, then_equal, then_less, Turn, turn_cmp}

pub turn_total : IsTotalOrder turn_cmp
turn_total = then_total (on_total (λ (a : Turn). a.metric) nat_cmp_total) (then_total (on_total (λ (a : Turn). a.node) net_total) (on_total (λ (a : Turn). a.parent) net_total))

pub turn_exact : CmpEqualImpliesEq turn_cmp
turn_exact a b e =
    let (f, rest) = then_equal (nat_cmp a.metric b.metric) (ordering_then (net_cmp a.node b.node) (net_cmp a.parent b.parent)) e in
    let (g, h) = then_equal (net_cmp a.node b.node) (net_cmp a.parent b.parent) rest in
    ap (λ (m : ℕ). let r : Turn = record { metric = m; node = a.node; parent = a.parent } in r) (exact_unsigned a.metric b.metric f)
    ∙ ap (λ (n : NetAddr). let r : Turn = record { metric = b.metric; node = n; parent = a.parent } in r) (net_exact a.node b.node g)
    ∙ ap (λ (n : NetAddr). let r : Turn = record { metric = b.metric; node = b.node; parent = n } in r) (net_exact a.parent b.parent h)

-- a lesser turn costs no more
pub no_dearer : (a b : Turn) → turn_cmp a b ≡ Less → a.metric ≤ b.metric
no_dearer a b e = grind (arith, common_steps, then_less, ranked)
