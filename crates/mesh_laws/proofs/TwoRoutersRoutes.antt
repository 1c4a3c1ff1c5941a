-- The routes of two routers that hear each other.
use Rattle.mesh_laws.proofs.Common.{◌≡◌, ℕ, suc, ◌+◌, ◌⊎◌, ◌≢◌, inl, inr, refl, sym, ◌∙◌, ap, subst, arith, [], Contains, slice_get, Some, NetAddr, LinkKey, Link, Neighbour, Interface, Route, host, metric_value, IsAtMost, RouteArc, To_neighbour, To_two_hop, By_router, By_address, By_network, IsOutside, IsParent, IsNextHop, AreRoutes, Walk, Stay, Onward, Least, AtSelf, only, first_of, same_host, contains_none as none_of, contains_head as here}
use Rattle.mesh_laws.proofs.TwoRouters.{one, addr, face, arc, link, neighbour, route, state, address_on, has_own, apart, symmetric_is, symmetric, link_is, no_two_hop}

pub arc_is : (x y : ℕ) (m n : NetAddr) (c : ℕ) → RouteArc (state x y) m n c → (m ≡ host (addr x)) × (n ≡ host (addr y)) × (c ≡ 1)
arc_is x y _ _ _ (To_neighbour {self = self} {a = a} {m = m} o n is has out) =
    let (iface, at, first) = is in
    let (_, f) = first_of (face x) iface 0 at in
    let P : Interface → Type 0 = λ b. slice_get b.addrs 0 ≡ Some self in
    let (_, e) = first_of (addr x) self 0 (subst P f first) in
    let (_, g) = symmetric_is x y o n has.0 in
    let Q : Neighbour → Type 0 = λ b. Contains b.addrs a in
    let R : Neighbour → Type 0 = λ b. b.metric_out ≡ Some m in
    let h : Some one ≡ Some m = subst R g out in
    let k : one ≡ m = cc in
    (ap host e, ap host (only (addr y) a (subst Q g has.1)), ap metric_value (sym k))
arc_is x y _ _ _ (To_two_hop i link t n has with wills out) = absurd (no_two_hop x y i _ t has)
arc_is x y _ _ _ (By_router t has) = absurd (none_of _ has.1)
arc_is x y _ _ _ (By_address t has) = absurd (none_of _ has.1)
arc_is x y _ _ _ (By_network t has) = absurd (none_of _ has.1)

pub walk_is : {x y : ℕ} → x ≢ y → (n : NetAddr) (c : ℕ) → Walk (RouteArc (state x y)) (host (addr x)) n c →
    ((n ≡ host (addr x)) × (c ≡ 0)) ⊎ ((n ≡ host (addr y)) × (c ≡ 1))
walk_is ne _ _ Stay = inl (refl, refl)
walk_is {x} {y} ne _ _ (Onward {b = p} {d = q} {c = c} {m = m} walk arc) =
    let (from, to, cost) = arc_is x y p q m arc in
    elim (walk_is ne p c walk) [
      | inl near ↦ (let e : c ≡ 0 = near.1 in inr (to, omega arith))
      | inr far ↦ absurd (apart ne (same_host (addr x) (addr y) (sym from ∙ far.0)))
    ]

pub other_arc : (x y : ℕ) → RouteArc (state x y) (host (addr x)) (host (addr y)) 1
other_arc x y = To_neighbour (addr y) (neighbour y) (face x, refl, refl) (symmetric x y, here _ []) refl

pub other_least : {x y : ℕ} → x ≢ y → Least (RouteArc (state x y)) (host (addr x)) (host (addr y)) 1
other_least {x} {y} ne = record {
  reached = (let P : ℕ → Type 0 = λ b. Walk (RouteArc (state x y)) (host (addr x)) (host (addr y)) b in subst P (let e : 0 + 1 ≡ 1 = refl in e) (Onward Stay (other_arc x y)));
  least = λ d walk. elim (walk_is ne (host (addr y)) d walk) [
    | inl at ↦ absurd (apart ne (sym (same_host (addr y) (addr x) at.0)))
    | inr at ↦ (let e : d ≡ 1 = at.1 in omega arith)
  ];
}

pub outside : {x y : ℕ} → x ≢ y → IsOutside (state x y) (host (addr y))
outside {x} {y} ne = record {
  no_address = λ a has e. (let (_, f) = address_on x has.0 a has.1 in apart ne (sym (same_host (addr y) a e ∙ f)));
  no_network = λ t stands e. none_of t stands;
}

pub parent : {x y : ℕ} → x ≢ y → IsParent (state x y) (host (addr x)) (host (addr x)) (host (addr y))
parent {x} {y} ne = record {
  fits = record {
    before = 0;
    metric = 1;
    to_parent = record { reached = Stay; least = λ d walk. omega arith };
    arc = other_arc x y;
    to_node = other_least ne;
  };
  least = λ q fits. (let (e, _, _) = arc_is x y q (host (addr y)) fits.metric fits.arc in
      let P : NetAddr → Type 0 = λ b. IsAtMost (host (addr x)) b in
      subst P (sym e) (inr (refl, omega arith)));
}

pub routes_are : {x y : ℕ} → x ≢ y → AreRoutes (state x y) 5 (addr x)
routes_are {x} {y} ne = record {
  ordered = λ i j d less within. absurd (omega (arith, less, within));
  is_self = (face x, refl, refl);
  reached = λ node c walk out. elim (walk_is ne node c walk) [
    | inl at ↦ absurd (out.no_address (addr x) (0, has_own x) at.0)
    | inr at ↦ (route x y, here _ [], sym at.0)
  ];
  outside = λ row stands. (let e = only (route x y) row stands in let P : Route → Type 0 = λ b. IsOutside (state x y) b.dest in subst P (sym e) (outside ne));
  least = λ row stands. (let e = only (route x y) row stands in
      let P : Route → Type 0 = λ b. Least (RouteArc (state x y)) (host (addr x)) b.dest b.metric in subst P (sym e) (other_least ne));
  parent = λ row stands. (let e = only (route x y) row stands in
      let P : Route → Type 0 = λ b. IsParent (state x y) (host (addr x)) b.parent b.dest in subst P (sym e) (parent ne));
  next_hop = λ row stands. (let e = only (route x y) row stands in
      let P : Route → Type 0 = λ b. IsNextHop (state x y) 5 (host (addr x)) b in
      subst P (sym e) record {
        first = addr y;
        on_the_way = AtSelf (parent ne);
        originator = addr y;
        neighbour = neighbour y;
        owner = (symmetric x y, here _ []);
        metric = one;
        way = record { link = link y; stands = (_, refl, (9, here _ [])); state = refl; of_it = here _ []; out = refl };
        best = λ i key m way.
            (let (e_i, e_key, e_link) = link_is x y i key way.link way.stands in
            let Q : Link → Type 0 = λ b. b.link_out ≡ Some m in
            let h : Some one ≡ Some m = subst Q e_link way.out in
            let k : one ≡ m = cc in
            let same : suc y ≡ key.addr.0 = ap (λ (b : LinkKey). b.addr.0) (sym e_key) in
            inr (ap metric_value k, inr (sym e_i, omega arith)));
      });
}
