-- How a probe begins: its number, and its first frames.
use Rattle.mesh_probe.proofs.Common.{◌≡◌, refl, ℕ, zero, suc, ◌<◌, ◌≤◌, inl, inr, sym, subst, arith, List, [], ◌∷◌, length, Some, None, map, get_or, All, common_steps, All-nil, All-cons, All-append, slice_get_cases, Addr4, RouterSettings, Scenario, Router, At, State, IsOriginator, Everywhere, on_each, Coverage, NoNumber, Done, Transmission, sent_by, Flood, CanHear, IsOfInterface, IsLeastUnknown, IsProbeFrame, SendsOnceFrom, IsTcOf, tc_key, AreRoutersAt, HasLeastNumber, IsKnown, IsProbeFlood, IsTcNoted, same_some}
use Rattle.mesh_probe.proofs.Prefix.{sends_once}
use Rattle.mesh_probe.proofs.Queues.{one_sent}
use Rattle.mesh_probe.proofs.Turns.{state_there}

-- The number

module _ (s : Scenario) (states : List State) (origin : ℕ) (r : RouterSettings) (is : Router s origin r) (o : Addr4) (own : IsOriginator r o)
    (only : (other : Addr4) → IsOriginator r other → other ≡ o) where
  taken : (n : ℕ) → IsKnown states (tc_key o n) → IsTcNoted s states origin n
  taken n known = (o, (r, is, own), known)

  known_of : (n : ℕ) → IsTcNoted s states origin n → IsKnown states (tc_key o n)
  known_of n (other, (q, there, its), known) =
      let same : q ≡ r = same_some there is in
      subst (λ (a : Addr4). IsKnown states (tc_key a n)) (only other (subst (λ (t : RouterSettings). IsOriginator t other) same its)) known

  pub least_number : (n : ℕ) (c : Coverage) → c.number ≡ n → IsLeastUnknown states o (Some n) → HasLeastNumber s states origin (Done c)
  least_number n c number least =
      subst (λ (m : ℕ). (IsTcNoted s states origin m → ⊥) × ((k : ℕ) → k < m → IsTcNoted s states origin k)) (sym number)
      (λ t. least.0 (known_of n t), λ k less. taken k (least.1 k less))

  pub no_number : IsLeastUnknown states o None → HasLeastNumber s states origin NoNumber
  no_number all n less = taken n (all n less)

-- The first frames

first_owned : (s : Scenario) (w : ℕ) (r : RouterSettings) → Router s w r → (n : ℕ) (octets : List ℕ) → n ≤ length r.interfaces → All (IsOfInterface s) (sent_by w (on_each n octets))
first_owned s w r is zero octets few = All-nil (IsOfInterface s)
first_owned s w r is (suc i) octets few =
    let last : Transmission = record { router = w; frame = record { iface = i; bytes = octets } } in
    let one : IsOfInterface s last = (r, is, omega (arith, few)) in
    subst (λ ts. All (IsOfInterface s) ts) (one_sent w (on_each i octets) (record { iface = i; bytes = octets }))
    (All-append (IsOfInterface s) (sent_by w (on_each i octets)) (last ∷ []) (first_owned s w r is i octets (omega (arith, few)))
    (All-cons (IsOfInterface s) last [] one (All-nil (IsOfInterface s))))

pub first_are : (origin : ℕ) (p : State) (frames : List Transmission) (count : ℕ) (bytes octets : List ℕ) (r : RouterSettings) → frames ≡ sent_by origin (on_each count bytes) →
    count ≡ length r.interfaces → r ≡ p.settings → bytes ≡ octets → frames ≡ sent_by origin (on_each (length p.settings.interfaces) octets)
first_are origin p frames count bytes octets r are number its same = grind (arith, common_steps)

module _ (s : Scenario) (states : List State) (origin : ℕ) (net : AreRoutersAt s states s.end) where
  -- the state of the router that probes
  pub router_at : origin < length s.routers → (p : State) × At states origin p
  router_at less = elim (slice_get_cases s.routers origin).1 [
    | inl (r, l, is, g) ↦ net.routers.all origin r is
    | inr (past, e) ↦ absurd (omega (arith, past, less))
  ]

  pub can_hear : CanHear s states s.end
  can_hear = grind (arith, common_steps)

  module _ (p : State) (at : At states origin p) (number : ℕ) (bytes : List ℕ) (frame : IsProbeFrame p number bytes) where
    tc_is : IsTcOf p frame.tc p.settings.times.tc_hop_limit bytes
    tc_is = record { validity = frame.code ∷ []; times = Everywhere frame.is_code.sent; writes = frame.writes.writes; own = frame.tc_is.originator; octet = frame.octet }

    abbrev pub first : List Transmission
    first = sent_by origin (on_each (length p.settings.interfaces) bytes)

    pub owned : All (IsOfInterface s) first
    owned = first_owned s origin p.settings (net.routers.settings origin p at) (length p.settings.interfaces) bytes (omega arith)

    pub once : SendsOnceFrom s s.end states first
    once = sends_once s states s.end origin frame.tc p.settings.times.tc_hop_limit net.routers p at bytes tc_is

    pub probe_flood : (new : List State) (heard : List Transmission) → Flood s s.end states first new heard → IsProbeFlood s states s.end origin number heard new
    unfolding tc_is
    probe_flood new heard flood = record {
      p = p;
      at = at;
      tc = frame.tc;
      tc_is = frame.tc_is;
      flood = record { p = p; at = at; bytes = bytes; tc_is = tc_is; flood = flood };
      everywhere = (frame.code, frame.is_code, refl);
    }

-- the state of the router that probes, where states are of routers
pub prober : {A : Type 0} (state : A → State) (routers : List A) (s : Scenario) (origin : ℕ) → AreRoutersAt s (map state routers) s.end → origin < length s.routers → (d : A) →
    At (map state routers) origin (state (get_or routers origin d))
prober state routers s origin net less d =
    let (p, at) = router_at s (map state routers) origin net less in
    subst (λ (q : State). At (map state routers) origin q) (state_there state routers origin p d at) at
