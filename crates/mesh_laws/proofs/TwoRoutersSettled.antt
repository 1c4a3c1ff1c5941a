-- Two routers that hear each other hold exactly what the other says.
use Rattle.mesh_laws.proofs.Common.{common_steps, ◌≡◌, ℕ, suc, ◌⊎◌, ◌≢◌, inl, inr, refl, sym, ap, subst, arith, List, [], ◌∷◌, Contains, Addr4, Metric, RouterSettings, GivesAsSelector, Advertises, metric_value, SaysSymmetric, Leads, IsAdmitted, Joins, IsMetric, Router, At, IsSettledAt, IsLinkTo, IsNeighbourOf, IsPeer, State, HasAddress, Attached4, first_of, contains_none as none_of, contains_head as here}
use Rattle.mesh_laws.proofs.PlainRouters.{each_admits}
use Rattle.mesh_laws.proofs.TwoRouters.{one, addr, face, settings, scenario, link, neighbour, state, states, address_on, has_own, symmetric_is, symmetric, link_is, no_two_hop}

-- one router x of the two, and the other one y
pub record Side (x y : ℕ) : Type 0 where
  pub sx : At states x (state x y)
  pub sy : At states y (state y x)
  pub rx : Router scenario x (settings x)
  pub ry : Router scenario y (settings y)
  pub out : Leads scenario x 0 y 0 one
  pub home : Leads scenario y 0 x 0 one
  pub ne : x ≢ y
  pub from_x : (i z j : ℕ) (m : Metric) → Leads scenario x i z j m → (i ≡ 0) × (z ≡ y) × (j ≡ 0) × (m ≡ one)
  pub from_y : (i z j : ℕ) (m : Metric) → Leads scenario y i z j m → (i ≡ 0) × (z ≡ x) × (j ≡ 0) × (m ≡ one)
  pub at_y : (q : State) → At states y q → q ≡ state y x
  pub at_x : (q : State) → At states x q → q ≡ state x y
  pub routers : (w : ℕ) (r : RouterSettings) → Router scenario w r → (w ≡ x) ⊎ (w ≡ y)

admitted : {x y : ℕ} → Router scenario x (settings x) → Router scenario y (settings y) → IsAdmitted scenario x 0 y 0
admitted {x} {y} from to = each_admits scenario x y (settings x) (settings y) from to refl refl

pub joins : {x y : ℕ} → Side x y → Joins scenario x 0 y 0 one one
joins f = record { out = f.out; home = f.home; out_admitted = admitted f.rx f.ry; home_admitted = admitted f.ry f.rx }

pub metric : {x y : ℕ} → Side x y → IsMetric scenario x y one
metric {x} {y} f = record {
  some = (0, 0, one, joins f);
  least = λ i j there back joined. (let e : metric_value there ≡ 1 = ap metric_value (f.from_x i y j there joined.out).3 in omega arith);
}

pub turned : {x y : ℕ} → Side x y → Side y x
turned {x} {y} f = record {
  sx = f.sy;
  sy = f.sx;
  rx = f.ry;
  ry = f.rx;
  out = f.home;
  home = f.out;
  ne = λ e. f.ne (sym e);
  from_x = f.from_y;
  from_y = f.from_x;
  at_y = f.at_x;
  at_x = f.at_y;
  routers = λ w r is. elim (f.routers w r is) [ inl e ↦ inr e | inr e ↦ inl e ];
}

pub link_to : (x y : ℕ) → IsLinkTo (state x y) (state y x) 0 0 5 one one (record { addr = addr y }) (link y)
link_to x y = record {
  keyed = (has_own y, λ b on. (let (_, e) = address_on y 0 b on in let f : b.0 ≡ suc y = ap (λ (a : Addr4). a.0) e in omega arith));
  addresses = λ a. ((λ c. (face y, refl, c)), (λ on. (let (_, e) = address_on y 0 a on in let P : Addr4 → Type 0 = λ b. Contains (addr y ∷ []) b in subst P (sym e) (here (addr y) []))));
  link_in = refl;
  link_out = refl;
  selector = (
    (λ e. absurd (cc)),
    (λ shown. absurd (
        let (a, on, shows) = shown in
        let (l, _, o, n, b, _, _, relays, at, chosen) = shows in
        let (_, same) = first_of [] relays 0 at in
        let P : List Addr4 → Type 0 = λ i. Contains i o in
        none_of o (subst P same chosen))),
  );
}

pub neighbour_of : (x y : ℕ) → IsNeighbourOf (state x y) (state y x) 5 one one (addr y) (neighbour y)
neighbour_of x y = record {
  originator_is = (face y, refl, refl);
  addresses = λ a. ((λ c. (0, (face y, refl, c))), (λ has. (let (j, on) = has in let (_, e) = address_on y j a on in let P : Addr4 → Type 0 = λ b. Contains (addr y ∷ []) b in subst P (sym e) (here (addr y) []))));
  willing = refl;
  metric_in = refl;
  metric_out = refl;
  selector = λ j. (
    (λ e. absurd (cc)),
    (λ shown. absurd (
        let (a, has, shows) = shown in
        let (o, n, with, chosen) = shows in
        none_of o chosen)),
  );
}

-- nothing is shown beside the other one's address
pub shown_is : (x y j : ℕ) (a : Addr4) → SaysSymmetric (state x y) j 5 a → a ≡ addr y
shown_is x y j a shows = grind (arith, common_steps, link_is, symmetric_is)

pub no_selector : (x y : ℕ) (a o : Addr4) (m : Metric) → GivesAsSelector (state x y) a o m → ⊥
no_selector x y a o m g = grind (arith, common_steps, symmetric_is)

-- each state has its router's settings
pub routers_of : (w : ℕ) (q : State) → At states w q → Router scenario w q.settings
routers_of w q at = grind (arith, common_steps)

-- a peer is the other one
pub peer_is : {x y : ℕ} → Side x y → (w : ℕ) (q : State) → IsPeer scenario states x w q → q ≡ state y x
peer_is {x} {y} f w q who = elim (f.routers w q.settings (routers_of w q who.at)) [
  | inl e ↦ absurd (who.other e)
  | inr e ↦ f.at_y q (let P : ℕ → Type 0 = λ b. At states b q in subst P e who.at)
]

pub unheard : {x y : ℕ} → Side x y → (w : ℕ) (q : State) (a : Addr4) (m : Metric) → IsPeer scenario states x w q → Advertises q a m → ⊥
unheard {x} {y} f w q a m who row =
    let P : State → Type 0 = λ b. GivesAsSelector b a row.giver m in
    no_selector y x a row.giver m (subst P (peer_is f w q who) row.given)

pub nothing : {x y : ℕ} → Side x y → (w : ℕ) (q : State) → IsPeer scenario states x w q → (t : Attached4) → Contains q.settings.attached t → ⊥
nothing {x} {y} f w q who t stands =
    let P : State → Type 0 = λ b. Contains b.settings.attached t in
    none_of t (subst P (peer_is f w q who) stands)

pub settled_at : {x y : ℕ} → Side x y → IsSettledAt scenario states 5 x (state x y)
settled_at {x} {y} f = record {
  link_from = λ i key l has symmetric.
      (let (e, k, g) = link_is x y i key l has in
      rw (e, k, g) (y, 0, state y x, one, one, f.sy, joins f, link_to x y));
  link_to = λ i z j q there back at joined.
      (let (e, g, h, t) = f.from_x i z j there joined.out in
      let P : ℕ → Type 0 = λ b. At states b q in
      let Q : ℕ → Type 0 = λ b. Leads scenario b j x i back in
      let (_, _, _, u) = f.from_y j x i back (subst Q g joined.home) in
      let k = f.at_y q (subst P g at) in
      rw (e, h, t, u, k) (record { addr = addr y }, link y, (_, refl, (9, here _ [])), refl, link_to x y));
  neighbour_from = λ o n has.
      (let (e, g) = symmetric_is x y o n has in
      rw (e, g) (y, state y x, one, one, f.sy, metric f, metric (turned f), neighbour_of x y));
  neighbour_to = λ z q at adj.
      (let (i, j, there, back, joined) = adj in
      let (_, g, _, _) = f.from_x i z j there joined.out in
      let P : ℕ → Type 0 = λ b. At states b q in
      let k = f.at_y q (subst P g at) in
      rw (g, k) (addr y, neighbour y, one, one, symmetric x y, metric f, metric (turned f), neighbour_of x y));
  two_hop_from = λ i key t has. absurd (no_two_hop x y i key t has);
  two_hop_to = λ i z j q there back key t at joined by. absurd (
      let (_, g, _, _) = f.from_x i z j there joined.out in
      let P : ℕ → Type 0 = λ b. At states b q in
      let k = f.at_y q (subst P g at) in
      let Q : State → Type 0 = λ b. SaysSymmetric b j 5 key.addr in
      let e = shown_is y x j key.addr (subst Q k by.shown) in
      let R : Addr4 → Type 0 = λ b. HasAddress (settings x) b in
      by.not_mine (subst R (sym e) (0, has_own x)));
  router_from = λ key t has. absurd (none_of _ has.1);
  router_to = λ w q key t who by. absurd (unheard f w q key.to t.metric who by.metric);
  address_from = λ key t has. absurd (none_of _ has.1);
  address_to = λ w q key t who by. absurd (unheard f w q key.addr t.metric who by.metric);
  network_from = λ key t has. absurd (none_of _ has.1);
  network_to = λ w q key t who by. absurd (nothing f w q who by.row.attached by.row.stands);
}
