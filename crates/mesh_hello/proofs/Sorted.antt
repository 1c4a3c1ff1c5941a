-- Addresses in ascending order.
use Rattle.mesh_hello.proofs.Common.{◌≡◌, ◌<◌, List, Ordering, Less, get_or, sym, refl, ◌∙◌, arith, false, common_steps, IsDistinct, dedup, IsTotalOrder, ne_eqb, eq-eqb, IsStrictlySortedBy-dedup, Addr4, addr_eq, IsAscending}
use Rattle.std.specs.List.Sorted.{IsSorted}
use Rattle.std.specs.Ordering.{nat_cmp, eq_by_cmp}
use Rattle.std.proofs.lemmas.Cmp.{on_total, nat_cmp_total, ranked, by_ranked}
use Rattle.std.proofs.lemmas.Map.Keys.{Less-from_sorted, IsDistinct-from_apart}

abbrev pub addr_cmp : Addr4 → Addr4 → Ordering
addr_cmp a b = nat_cmp a.0 b.0

apart : (a b : Addr4) → (a.0 ≡ b.0 → ⊥) → addr_eq a b ≡ false
apart a b other = ne_eqb a.0 b.0 other

addr_total : IsTotalOrder addr_cmp
addr_total = on_total (λ (a : Addr4). a.0) nat_cmp_total

ties : (a b : Addr4) → addr_eq a b ≡ eq_by_cmp addr_cmp a b
ties a b = grind (arith, common_steps, by_ranked, ranked, apart, eq-eqb)

-- sorted and each once
pub ascending_dedup : (addrs : List Addr4) → IsSorted addr_cmp addrs → IsAscending (dedup addr_eq addrs)
ascending_dedup addrs sorted i j d lt within =
    by_ranked (x.0 < y.0) (x.0 ≡ y.0) (y.0 < x.0) (addr_cmp x y) (ranked x.0 y.0 (addr_cmp x y) refl) (λ is h. h) (λ is h. absurd (let e = sym is ∙ less in cc)) (λ is h. absurd (let e = sym is ∙ less in cc))
  where
    list : List Addr4
    list = dedup addr_eq addrs

    x : Addr4
    x = get_or list i d

    y : Addr4
    y = get_or list j d

    less : addr_cmp x y ≡ Less
    less = Less-from_sorted addr_cmp list i j d (IsStrictlySortedBy-dedup addr_total ties addrs sorted) lt within

pub distinct_ascending : (addrs : List Addr4) → IsAscending addrs → IsDistinct addr_eq addrs
distinct_ascending addrs up = IsDistinct-from_apart addr_eq addrs (λ i j d lt within. let below = up i j d lt within in apart (get_or addrs i d) (get_or addrs j d) (omega (arith, below)))
