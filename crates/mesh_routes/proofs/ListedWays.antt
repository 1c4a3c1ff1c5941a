-- The ways to a neighbour as a list, and their order.
use Rattle.mesh_routes.proofs.Common.{◌≡◌, ℕ, ◌<◌, ◌≤◌, ◌⊎◌, refl, subst, arith, length, Some, true, Contains, common_steps, cases_lt, slice_get_within, Addr4, Metric, LinkKey, Link, base_of, metric_value, IsWayTo, State, is_symmetric, tests_symmetric, NeighbourLink, IsNoWorse, same_address}
use Rattle.mesh_routes.proofs.FirstNodes.{Entry}
use Rattle.mesh_routes.proofs.InOrder.{least_of_list}
use Rattle.mesh_routes.proofs.Listed.{IsListed, listed_one, listed_where, listed_known, listed_each, listed_below}
use Rattle.mesh_routes.proofs.OwnGraph.{base_at, base_has}
use Rattle.mesh_routes.proofs.OwnArcs.{is_or_not}

-- Which of two ways is no worse

pub no_worse : (w v : NeighbourLink) (k m : Metric) → metric_value k ≡ w.metric → metric_value m ≡ v.metric → IsNoWorse w v →
    (metric_value k < metric_value m)
    ⊎ ((metric_value k ≡ metric_value m) × ((w.iface < v.iface) ⊎ ((w.iface ≡ v.iface) × (w.next.0 ≤ v.next.0))))
no_worse w v k m at_w at_v h = grind (arith, common_steps)

-- a lesser interface, or at the same no greater address
abbrev IsEarlier : NeighbourLink → NeighbourLink → Type 0
IsEarlier a b = (a.iface < b.iface) ⊎ ((a.iface ≡ b.iface) × (a.next.0 ≤ b.next.0))

either_earlier : (a b : NeighbourLink) → IsEarlier a b ⊎ IsEarlier b a
either_earlier a b = grind (arith, common_steps, cases_lt)

either_no_worse : (w v : NeighbourLink) → IsNoWorse w v ⊎ IsNoWorse v w
either_no_worse w v = grind (arith, common_steps, cases_lt, either_earlier)

no_worse_further : (a b c : NeighbourLink) → IsNoWorse a b → IsNoWorse b c → IsNoWorse a c
no_worse_further a b c h3 h4 = grind (arith, common_steps)

-- The ways to a neighbour

module _ (s : State) (now : ℕ) (e : Entry) where
  -- the way of interface i by the link with that least address
  abbrev pub way_over : ℕ → Addr4 → Metric → NeighbourLink
  way_over i next k = record { originator = e.0; metric = metric_value k; iface = i; next = next }

  -- a way by a SYMMETRIC link
  abbrev IsWay : NeighbourLink → Type 0
  IsWay w =
      (i : ℕ) × (i < length s.bases.neighbourhood.links)
      × ((le : LinkKey × (Link × ℕ)) × Contains (base_of s.bases.neighbourhood.links i) le × ((is_symmetric le.1.0 now ≡ true)
      × ((a : Addr4) × Contains e.1.0.addrs a × ((a ≡ le.0.addr)
      × ((k : Metric) × (le.1.0.link_out ≡ Some k) × (way_over i le.0.addr k ≡ w))))))

  ways : IsListed IsWay
  ways = listed_below (length s.bases.neighbourhood.links)
      (λ i. listed_each (base_of s.bases.neighbourhood.links i) (λ le. listed_where (is_or_not (is_symmetric le.1.0 now))
      (listed_each e.1.0.addrs (λ a. listed_where (same_address a le.0.addr)
      (listed_known le.1.0.link_out (λ k. listed_one (way_over i le.0.addr k)))))))

  -- a way leads by a link of its neighbour
  abbrev pub IsWayBy : NeighbourLink → Type 0
  IsWayBy v = (k : Metric) × IsWayTo s now e.1.0 v.iface (record { addr = v.next }) k × (metric_value k ≡ v.metric)

  way_from : (v : NeighbourLink) → IsWay v → IsWayBy v
  way_from v (i, l, (le, within, (symmetric, (a, has, (at, (k, out, is)))))) =
      let (base, place, in_base) = base_at s.bases.neighbourhood.links i le within in
      let of_it : Contains e.1.0.addrs le.0.addr = subst (λ (b : Addr4). Contains e.1.0.addrs b) at has in
      let state = (tests_symmetric le.1.0 now).0 symmetric in
      let way : IsWayTo s now e.1.0 i le.0 k = record {
        link = le.1.0;
        stands = (base, place, (le.1.1, in_base));
        state = state;
        of_it = of_it;
        out = out;
      } in
      let by : IsWayBy (way_over i le.0.addr k) = (k, way, refl) in
      subst IsWayBy is by

  way_to : (i : ℕ) (key : LinkKey) (m : Metric) → IsWayTo s now e.1.0 i key m → IsWay (way_over i key.addr m)
  way_to i key m to =
      let (base, place, (until, stands)) = to.stands in
      let low : i < length s.bases.neighbourhood.links = slice_get_within s.bases.neighbourhood.links i base place in (
        i,
        low,
        (
          (key, (to.link, until)),
          base_has s.bases.neighbourhood.links i base (key, (to.link, until)) place stands,
          ((tests_symmetric to.link now).1 to.state, (key.addr, to.of_it, (refl, (m, to.out, refl)))),
        ),
      )

  -- where there is a way, one is the best
  pub best_of : (i : ℕ) (key : LinkKey) (m : Metric) → IsWayTo s now e.1.0 i key m →
      (w : NeighbourLink) × IsWayBy w
      × ((j : ℕ) (other : LinkKey) (k : Metric) → IsWayTo s now e.1.0 j other k → IsNoWorse w (way_over j other.addr k))
  best_of i key m to =
      let some = way_over i key.addr m in
      let has = (ways.1 some).1 (way_to i key m to) in
      let (w, (stands, least)) = least_of_list IsNoWorse either_no_worse no_worse_further ways.0 some has in (
        w,
        way_from w ((ways.1 w).0 stands),
        λ j other k by.
            let v = way_over j other.addr k in least v ((ways.1 v).1 (way_to j other k by)),
      )
