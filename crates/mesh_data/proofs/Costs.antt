-- What the law of settled routes says of a packet on its way.
use Rattle.mesh_data.proofs.Common.{common_steps, ◌≡◌, ◌≢◌, ℕ, ◌+◌, ◌-◌, ◌*◌, ◌/◌, ◌^◌, ◌<◌, ◌⊎◌, inl, inr, refl, sym, ◌∙◌, ap, subst, arith, List, length, slice_get_within, Addr4, NetAddr, Metric, Route, Scenario, host, metric_value, Leads, HopCosts, Joined, By, IsWillingRouter, AddressOf, Attaches, RadioLeast, To_router, To_network, At, State, WillingWalk, Here, Direct, Further, LeastWilling, LeastToNet, IsSettledNetwork, HopsTo, owner, Holds, LeadsToNext, same_addr, same_host}
use Rattle.mesh_atoms.proofs.Nets.{same_net}

-- Networks and addresses

one_each : (n : ℕ) → n / 2 ^ (32 - 32) * 2 ^ (32 - 32) ≡ n
one_each n = omega arith

pub host_holds : (a : Addr4) → Holds (host a) a
host_holds a = one_each a.0

pub host_held : (a b : Addr4) → Holds (host b) a → a ≡ b
host_held a b h = same_addr a b (sym (one_each a.0) ∙ h)

-- two networks of one prefix that have an address are the same
pub holds_one : (net other : NetAddr) (a : Addr4) → Holds net a → Holds other a → net.prefix ≡ other.prefix → net ≡ other
holds_one net other a h g e = grind (arith, common_steps, same_net, same_addr)

-- Routers

pub at_one : (states : List State) (x : ℕ) (p q : State) → At states x p → At states x q → p ≡ q
at_one states x p q a b = let e = a.is in let f = b.is in cc

-- Least costs

module _ (s : Scenario) where
  pub willing_one : (x y c d : ℕ) → LeastWilling (HopCosts s) (IsWillingRouter s) x y c → LeastWilling (HopCosts s) (IsWillingRouter s) x y d → c ≡ d
  willing_one x y c d p q = omega (arith, p.least d q.reached, q.least c p.reached)

  -- a least cost is one to a router, or to a network
  pub record IsToRouter (x : ℕ) (dest : NetAddr) (c : ℕ) : Type 0 where
    pub y : ℕ
    pub a : Addr4
    pub is : dest ≡ host a
    pub other : y ≢ x
    pub owned : AddressOf s y a
    pub least : LeastWilling (HopCosts s) (IsWillingRouter s) x y c

  pub record IsToNetwork (x : ℕ) (dest : NetAddr) (c : ℕ) : Type 0 where
    pub not_mine : (k : ℕ) → Attaches s x dest k → ⊥
    pub least : LeastToNet (HopCosts s) (IsWillingRouter s) (Attaches s) x dest c

  pub either : (x : ℕ) (dest : NetAddr) (c : ℕ) → RadioLeast s x dest c → IsToRouter x dest c ⊎ IsToNetwork x dest c
  either x _ c (To_router {y = y} {a = a} other is least) = inl (record { y = y; a = a; is = refl; other = other; owned = is; least = least })
  either x dest c (To_network off least) = inr (record { not_mine = off; least = least })

  -- a walk keeps to joined routers
  pub walk_joined : (f x y c : ℕ) → Joined s f x → WillingWalk (HopCosts s) (IsWillingRouter s) x y c → Joined s f y
  walk_joined f x y c j Here = j
  walk_joined f x y c j (Direct (m, is, _)) = let (i, k, back, joins) = is.some in By j (i, k, m, back, joins)
  walk_joined f x y _ j (Further {v = v} {c = d} walk t (m, is, _)) = let (i, k, back, joins) = is.some in By (walk_joined f x v d j walk) (i, k, m, back, joins)

module _ (s : Scenario) (states : List State) (now : ℕ) (S : IsSettledNetwork s states now) where
  mixed : (x c d : ℕ) (dest : NetAddr) → IsToRouter s x dest c → IsToNetwork s x dest d → ⊥
  mixed x c d dest p q = S.scenario.networks q.least.gateway p.y q.least.metric dest p.a q.least.attached p.owned p.is

  pub radio_one : (x c d : ℕ) (dest : NetAddr) → RadioLeast s x dest c → RadioLeast s x dest d → c ≡ d
  radio_one x c d dest p q = elim (either s x dest c p) [
    | inl r ↦ elim (either s x dest d q) [
      | inl t ↦
          let e : r.a ≡ t.a = same_host r.a t.a (sym r.is ∙ t.is) in
          let same : r.y ≡ t.y = owner s states now S r.y t.y t.a (subst (λ (b : Addr4). AddressOf s r.y b) e r.owned) t.owned in
          willing_one s x t.y c d (subst (λ (y : ℕ). LeastWilling (HopCosts s) (IsWillingRouter s) x y c) same r.least) t.least
      | inr t ↦ absurd (mixed x c d dest r t)
    ]
    | inr r ↦ elim (either s x dest d q) [
      | inl t ↦ absurd (mixed x d c dest t r)
      | inr t ↦
          let r_sum : r.least.way + r.least.metric ≡ c = r.least.sum in
          let t_sum : t.least.way + t.least.metric ≡ d = t.least.sum in
          omega (
            arith,
            r.least.least t.least.gateway t.least.way t.least.metric t.least.attached t.least.to_gateway.reached,
            t.least.least r.least.gateway r.least.way r.least.metric r.least.attached r.least.to_gateway.reached,
          )
    ]
  ]

  -- The interface that a next hop names is that of the law

  pub reached : (x n near : ℕ) (row : Route) → HopsTo s states x row.iface n row.next near →
      (y : ℕ) (m : Metric) → LeadsToNext s x row y m → (n ≡ y) × (near ≡ metric_value m)
  reached x n near row to y m r =
      let (same, place) = S.scenario.addresses n y to.j r.j to.q.settings r.settings row.next (S.routers.settings n to.q to.at) r.router to.on r.on in
      let arc : Leads s x row.iface y r.j to.there = subst (λ (i : ℕ). Leads s x row.iface y i to.there) place (subst (λ (b : ℕ). Leads s x row.iface b to.j to.there) same to.joins.out) in
      (same, sym to.value ∙ ap metric_value (S.scenario.arcs x row.iface y r.j to.there m arc r.arc))

  pub reaches : (x n near : ℕ) (row : Route) (to : HopsTo s states x row.iface n row.next near) →
      LeadsToNext s x row n to.there
  reaches x n near row to = record { j = to.j; settings = to.q.settings; router = S.routers.settings n to.q to.at; on = to.on; arc = to.joins.out }

  pub within : (x : ℕ) (p : State) → At states x p → x < length s.routers
  within x p at = slice_get_within s.routers x p.settings (S.routers.settings x p at)
