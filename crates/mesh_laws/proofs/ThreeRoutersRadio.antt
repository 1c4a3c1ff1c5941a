-- The radio graph of three routers in a row.
use Rattle.mesh_laws.proofs.Common.{common_steps, ◌≡◌, ℕ, zero, suc, ◌≢◌, refl, ap, arith, Contains, Some, None, Metric, RadioArc, RouterSettings, metric_value, Leads, IsAdmitted, Joins, Adjacent, IsMetric, Itself, By, Router, At, IsPeer, AreStates, State, some_equal}
use Rattle.mesh_laws.proofs.PlainRouters.{each_admits}
use Rattle.mesh_laws.proofs.ThreeRouters.{one, arc, peers, each_pair, peers_back, settings, scenario, state, states}

-- Arcs

-- an arc joins the first interfaces of two peers, at the metric 1
record IsJoint (a : RadioArc) : Type 0 where
  out : a.from_iface ≡ 0
  in_at : a.to_iface ≡ 0
  metric : a.metric ≡ one
  peer : Contains (peers a.from) a.to

pub leads : (x i y j : ℕ) (m : Metric) → Leads scenario x i y j m → (i ≡ 0) × (j ≡ 0) × (m ≡ one) × Contains (peers x) y
leads x i y j m h5 = grind (arith, common_steps)

leads_out : (x y : ℕ) → Contains (peers x) y → Leads scenario x 0 y 0 one
leads_out = each_pair (λ x y. Leads scenario x 0 y 0 one)
    (arc 0 1, (0, omega arith, refl), refl, refl, refl, refl, refl)
    (arc 1 0, (1, omega arith, refl), refl, refl, refl, refl, refl)
    (arc 1 2, (2, omega arith, refl), refl, refl, refl, refl, refl)
    (arc 2 1, (3, omega arith, refl), refl, refl, refl, refl, refl)

router_at : (x y : ℕ) → Contains (peers x) y → Router scenario y (settings y)
router_at = each_pair (λ x y. Router scenario y (settings y)) refl refl refl refl

admitted : (x y : ℕ) → Contains (peers x) y → IsAdmitted scenario x 0 y 0
admitted x y c = each_admits scenario x y (settings x) (settings y) (router_at y x (peers_back x y c)) (router_at x y c) refl refl

pub joins : (x y : ℕ) → Contains (peers x) y → Joins scenario x 0 y 0 one one
joins x y c = record {
  out = leads_out x y c;
  home = leads_out y x (peers_back x y c);
  out_admitted = admitted x y c;
  home_admitted = admitted y x (peers_back x y c);
}

pub adjacent : (x y : ℕ) → Contains (peers x) y → Adjacent scenario x y
adjacent x y c = (0, 0, one, one, joins x y c)

pub metric : (x y : ℕ) → Contains (peers x) y → IsMetric scenario x y one
metric x y c = record {
  some = (0, 0, one, joins x y c);
  least = λ i j there back joined. (let (_, _, is, _) = leads x i y j there joined.out in let e : metric_value there ≡ 1 = ap metric_value is in omega (arith, e));
}

-- States

pub each_state : (P : ℕ → State → Type 0) → P 0 (state 0) → P 1 (state 1) → P 2 (state 2) → (x : ℕ) (p : State) → At states x p → P x p
each_state P a b c x p at = grind (arith, common_steps, some_equal)

pub state_is : (x : ℕ) (p : State) → At states x p → p ≡ state x
state_is = each_state (λ x p. p ≡ state x) refl refl refl

pub state_at : (x y : ℕ) → Contains (peers x) y → At states y (state y)
state_at = each_pair (λ x y. At states y (state y)) (record { is = refl }) (record { is = refl }) (record { is = refl }) (record { is = refl })

pub are_states : AreStates scenario states
are_states = record {
  settings = each_state (λ x p. Router scenario x p.settings) refl refl refl;
  all = all;
}
  where
    all : (x : ℕ) (r : RouterSettings) → Router scenario x r → (p : State) × At states x p
    all zero r at = (state 0, record { is = refl })
    all (suc zero) r at = (state 1, record { is = refl })
    all (suc (suc zero)) r at = (state 2, record { is = refl })
    all (suc (suc (suc x))) r at = absurd (let no : None ≡ Some r = at in cc)

-- Peers in the sense of the settled network

pub next_to : (x y : ℕ) → y ≢ x → Contains (peers x) y → IsPeer scenario states x y (state y)
next_to x y other c = record { other = other; joined = By Itself (adjacent x y c); at = state_at x y c }

pub two_away : (x y : ℕ) → y ≢ x → Contains (peers x) 1 → Contains (peers 1) y → IsPeer scenario states x y (state y)
two_away x y other c d = record { other = other; joined = By (By Itself (adjacent x 1 c)) (adjacent 1 y d); at = state_at 1 y d }
