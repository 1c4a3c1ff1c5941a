-- Networks of routers that have one interface with one address and admit whatever they hear: their settings, their scenario, what they
-- hold of a neighbour whose HELLOs are heard, and their states.
use Rattle.mesh_laws.proofs.Common.{◌≡◌, ℕ, refl, arith, List, [], ◌∷◌, length, map, flat_map, slice_get, Some, None, Bool, true, false, Metric, TcRow, Link, Neighbour, Attached4, Interface, RouterSettings, RadioArc, Scenario, Route, Bases, State, admits_all, IsAdmitted, Router, IsRouter, AreRouters, AreArcs, ends_of}
use Rattle.mesh_atoms.specs.declared.hello.Willing.{Willing as Wills}
use Rattle.mesh_atoms.specs.declared.settings.Times.{Times}
use Rattle.mesh_atoms.specs.declared.tuples.Relays.{Relays}
pub use Rattle.mesh_laws.proofs.PlainRoutersInRange.{addr}
use Rattle.mesh_laws.proofs.PlainRoutersInRange.{letter, code_fits, seven_within, no_senders, no_near_holds, all_rows, none_lost, some_delay, short_delay, is_end, small_seed, no_loss, are_times, is_interface}

-- Settings

abbrev pub one : Metric
one = record { code = 0; in_range = code_fits }

abbrev pub seven : Wills
seven = record { flooding = 7; routing = 7; flooding_within = seven_within; routing_within = seven_within }

-- the interface of router x
abbrev pub face : ℕ → Interface
face x = record { name = letter x ∷ []; addrs = addr x ∷ []; metric = one; senders = []; admit = admits_all; sound = is_interface x; few_senders = no_senders; distinct_senders = refl; same_senders = refl }

abbrev pub times : Times
times = record {
  hello = 16384;
  hold = 49152;
  link_hold = 49152;
  neighbour_hold = 49152;
  tc = 40960;
  topology_hold = 122880;
  advertised_hold = 122880;
  received_hold = 245760;
  processed_hold = 245760;
  forwarded_hold = 245760;
  tc_hop_limit = 255;
  sound = are_times;
}

-- router x, which attaches these networks
abbrev pub settings_of : (x : ℕ) (attached : List Attached4) →
    IsRouter (letter x ∷ []) 0 0 ((letter x ∷ []) ∷ []) (addr x ∷ []) (map (λ (t : Attached4). t.net) attached) → RouterSettings
settings_of x attached sound = record {
  name = letter x ∷ [];
  willing = seven;
  hello_at = 0;
  tc_at = 0;
  times = times;
  interfaces = face x ∷ [];
  attached = attached;
  tc_rows = 1088;
  near_hold = [];
  sound = sound;
  rows_in_range = all_rows;
  few_near_holds = no_near_holds;
  near_holds_in_order = refl;
}

-- The scenario

-- the arc from one router to another, at the metric 1
abbrev pub arc : ℕ → ℕ → RadioArc
arc x y = record { from = x; from_iface = 0; to = y; to_iface = 0; metric = one; loss = 0; delay = 9; lost_of_thousand = none_lost; delayed = some_delay; delayed_up_to = short_delay }

-- a run of these routers and arcs for 2 s, in which no frame is lost
abbrev pub scenario_of : (routers : List RouterSettings) (arcs : List RadioArc) →
    AreRouters (map (λ (r : RouterSettings). r.name) routers)
    (flat_map (λ (r : RouterSettings). flat_map (λ (i : Interface). i.addrs) r.interfaces) routers)
    (flat_map (λ (r : RouterSettings). map (λ (t : Attached4). t.net) r.attached) routers) →
    AreArcs (map (λ (r : RouterSettings). length r.interfaces) routers) (map ends_of arcs) → Scenario
scenario_of routers arcs are_routers are_arcs =
    record { end = 16384; seed = 0; loss_until = None; routers = routers; arcs = arcs; end_in_range = is_end; seed_in_range = small_seed; loss_in_range = no_loss; sound_routers = are_routers; sound_arcs = are_arcs }

-- each router admits whatever it hears
pub each_admits : (s : Scenario) (x y : ℕ) (p q : RouterSettings) → Router s x p → Router s y q → slice_get p.interfaces 0 ≡ Some (face x) →
    slice_get q.interfaces 0 ≡ Some (face y) → IsAdmitted s x 0 y 0
each_admits s x y p q sends receives is_from is_to = record {
  sender = p;
  sends = sends;
  from = face x;
  is_from = is_from;
  receiver = q;
  receives = receives;
  to = face y;
  is_to = is_to;
  accepted = omega arith;
}

-- States

-- the link with router y, and whether it is a selector's
abbrev pub link_of : ℕ → Bool → Link
link_of y selector = record { addrs = addr y ∷ []; heard = 9; sym = 9; quality = 100; pending = false; lost = false; link_in = one; link_out = Some one; selector = selector }

-- router y as a neighbour, and whether it is a selector
abbrev pub neighbour_of : ℕ → Bool → Neighbour
neighbour_of y selector = record { addrs = addr y ∷ []; symmetric = true; metric_in = Some one; metric_out = Some one; willing = seven; selector = selector }

-- a router at the moment 5, whose next HELLO and next TC are due at 6
abbrev pub plain_state : RouterSettings → Bases → Relays → List Route → List TcRow → State
plain_state settings bases relays routes rows =
    record { settings = settings; bases = bases; relays = relays; routes = routes; rows = rows; ansn = 0; emptied = None; sequence = 0; next_hello = 6; next_tc = 6; last = 5 }
