-- The relays of two routers that hear each other: there is nothing beyond the other one, so none is needed.
use Rattle.mesh_laws.proofs.Common.{common_steps, ◌≡◌, ℕ, ◌↔◌, refl, sym, ◌∙◌, ap, subst, arith, [], ◌∷◌, Contains, Some, Addr4, Metric, LinkKey, Link, Neighbour, Near, Direct, NeighbourGraph, metric_value, IsRoutingGraph, IsFloodingGraph, IsMetricOver, AreRelays, AreRelaysOf, Symmetric as Is_symmetric, HasLink, HasSymmetric, HasSymmetricWith, state_of, only, first_of, contains_none as none_of, contains_head as here}
use Rattle.mesh_laws.proofs.TwoRouters.{one, addr, link, neighbour, state, symmetric_is, symmetric, link_is, no_two_hop}

abbrev pub graph_of : ℕ → NeighbourGraph
graph_of y = record { near = record { id = addr y; cost = 1; will = 7 } ∷ []; direct = record { addr = addr y; cost = 1 } ∷ []; far = [] }

value_of : (m : Metric) → Some one ≡ Some m → metric_value m ≡ 1
value_of m e = let k : one ≡ m = cc in ap metric_value (sym k)

-- a metric and a willingness of neighbours, which are 1 and 7 for the one neighbour
record Costs (y : ℕ) : Type 1 where
  Cost : Neighbour → Metric → Type 0
  will : Neighbour → ℕ
  is_one : Cost (neighbour y) one
  one_alone : (m : Metric) → Cost (neighbour y) m → metric_value m ≡ 1
  seven : will (neighbour y) ≡ 7

near_entry : (x y : ℕ) (c : Costs y) (e : Near) →
    Contains (graph_of y).near e ↔ ((n : Neighbour) × (m : Metric) × HasSymmetric (state x y) e.id n × c.Cost n m × (metric_value m ≡ e.cost) × (c.will n ≡ e.will))
near_entry x y c e = (
  (λ stands. (let same = only (record { id = addr y; cost = 1; will = 7 }) e stands in
      let P : Near → Type 0 = λ b. (n : Neighbour) × (m : Metric) × HasSymmetric (state x y) b.id n × c.Cost n m × (metric_value m ≡ b.cost) × (c.will n ≡ b.will) in
      subst P (sym same) (neighbour y, one, symmetric x y, c.is_one, refl, c.seven))),
  (λ given.
      (let (n, m, has, metric, value, will) = given in
      let (id, g) = symmetric_is x y e.id n has in
      let P : Neighbour → Type 0 = λ b. c.Cost b m in
      let one_m : metric_value m ≡ 1 = c.one_alone m (subst P g metric) in
      let Q : Neighbour → Type 0 = λ b. c.will b ≡ e.will in
      let seven_is : 7 ≡ e.will = sym c.seven ∙ subst Q g will in
      let cost : 1 ≡ e.cost = sym one_m ∙ value in
      let R : Near → Type 0 = λ b. Contains (graph_of y).near b in
      let same : record { id = addr y; cost = 1; will = 7 } ≡ e =
      ap (λ (a : Addr4). let r : Near = record { id = a; cost = 1; will = 7 } in r) (sym id)
      ∙ (ap (λ (k : ℕ). let r : Near = record { id = e.id; cost = k; will = 7 } in r) cost
      ∙ ap (λ (k : ℕ). let r : Near = record { id = e.id; cost = e.cost; will = k } in r) seven_is) in
      subst R same (here _ []))),
)

direct_entry : (x y : ℕ) (c : Costs y) (e : Direct) →
    Contains (graph_of y).direct e ↔ ((o : Addr4) × (n : Neighbour) × (m : Metric) × HasSymmetricWith (state x y) e.addr o n × c.Cost n m × (metric_value m ≡ e.cost))
direct_entry x y c e = (
  (λ stands. (let same = only (record { addr = addr y; cost = 1 }) e stands in
      let P : Direct → Type 0 = λ b. (o : Addr4) × (n : Neighbour) × (m : Metric) × HasSymmetricWith (state x y) b.addr o n × c.Cost n m × (metric_value m ≡ b.cost) in
      subst P (sym same) (addr y, neighbour y, one, (symmetric x y, here _ []), c.is_one, refl))),
  (λ given.
      (let (o, n, m, has, metric, value) = given in
      let (_, g) = symmetric_is x y o n has.0 in
      let P : Neighbour → Type 0 = λ b. c.Cost b m in
      let one_m : metric_value m ≡ 1 = c.one_alone m (subst P g metric) in
      let Q : Neighbour → Type 0 = λ b. Contains b.addrs e.addr in
      let at : e.addr ≡ addr y = only (addr y) e.addr (subst Q g has.1) in
      let R : Direct → Type 0 = λ b. Contains (graph_of y).direct b in
      let same : record { addr = addr y; cost = 1 } ≡ e =
      ap (λ (a : Addr4). let r : Direct = record { addr = a; cost = 1 } in r) (sym at)
      ∙ ap (λ (k : ℕ). let r : Direct = record { addr = e.addr; cost = k } in r) (sym one_m ∙ value) in
      subst R same (here _ []))),
)

routing_costs : (y : ℕ) → Costs y
routing_costs y = record {
  Cost = λ n m. n.metric_in ≡ Some m;
  will = λ n. n.willing.routing;
  is_one = refl;
  one_alone = λ m e. value_of m e;
  seven = refl;
}

routing_graph : (x y : ℕ) → IsRoutingGraph (state x y) (graph_of y)
unfolding routing_costs
routing_graph x y = record {
  near = λ e. near_entry x y (routing_costs y) e;
  direct = λ e. direct_entry x y (routing_costs y) e;
  far = λ e. ((λ c. absurd (none_of e c)), (λ given. absurd (no_two_hop x y given.0 given.1 given.2 given.6)));
}

flooding_costs : (x y : ℕ) → Costs y
flooding_costs x y = record {
  Cost = λ n m. IsMetricOver (state x y) 5 0 n m;
  will = λ n. n.willing.flooding;
  is_one = ((record { addr = addr y }, link y, (_, refl, (9, here _ [])), here _ [], refl, refl), (λ k given. (let e : metric_value k ≡ 1 = known k given in omega arith)));
  one_alone = λ m c. known m c.0;
  seven = refl;
}
  where
    known : (m : Metric) → ((key : LinkKey) × (l : Link) × HasLink (state x y) 0 key l × Contains (neighbour y).addrs key.addr × (state_of l 5 ≡ Is_symmetric) × (l.link_out ≡ Some m)) → metric_value m ≡ 1
    known m given =
        let (key, l, has, _, _, out) = given in
        let (_, _, e) = link_is x y 0 key l has in
        let P : Link → Type 0 = λ b. b.link_out ≡ Some m in
        value_of m (subst P e out)

flooding_graph : (x y : ℕ) → IsFloodingGraph (state x y) 5 0 (graph_of y)
unfolding flooding_costs
flooding_graph x y = record {
  near = λ e. near_entry x y (flooding_costs x y) e;
  direct = λ e. direct_entry x y (flooding_costs x y) e;
  far = λ e. ((λ c. absurd (none_of e c)), (λ given. absurd (no_two_hop x y 0 given.0 given.1 given.5)));
}

none_chosen : (y : ℕ) → AreRelaysOf (graph_of y) []
none_chosen y = grind (arith, common_steps)

pub relays_are : (x y : ℕ) → AreRelays (state x y) 5
relays_are x y = record {
  interfaces = refl;
  flooding = λ i relays at.
      (let (e, none) = first_of [] relays i at in
      rw (e, none) (graph_of y, flooding_graph x y, none_chosen y));
  routing = (graph_of y, routing_graph x y, none_chosen y);
}
