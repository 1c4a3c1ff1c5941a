-- The settings of three routers in a row are in their ranges.
use Rattle.mesh_laws.proofs.Common.{common_steps, ◌≡◌, ℕ, zero, suc, ◌%◌, ◌-◌, ◌^◌, ◌≤◌, refl, arith, List, [], ◌∷◌, map, Contains, NetAddr, Attached4, RadioArc, IsRouter, AreRouters, AreArcs, ends_of}
use Rattle.mesh_laws.proofs.PlainRoutersInRange.{letter, router_with}
use Rattle.mesh_laws.proofs.PlainRouters.{one, addr, arc}

pub net_within : 24 ≤ 32
net_within = omega arith

pub net_clear : 3232235776 % 2 ^ (32 - 24) ≡ 0
net_clear = refl

-- 192.168.1.0/24
abbrev pub net : NetAddr
net = record { addr = record { 0 = 3232235776 }; prefix = 24; within = net_within; clear = net_clear }

-- the last router attaches it, one hop behind
abbrev pub given : Attached4
given = record { net = net; metric = one; distance = 1 }

abbrev pub attached : ℕ → List Attached4
attached zero = []
attached (suc zero) = []
attached (suc (suc x)) = given ∷ []

pub attached_is : (x : ℕ) (t : Attached4) → Contains (attached x) t → t ≡ given
attached_is x t c = grind (arith, common_steps)

pub is_router : (x : ℕ) → IsRouter (letter x ∷ []) 0 0 ((letter x ∷ []) ∷ []) (addr x ∷ []) (map (λ (t : Attached4). t.net) (attached x))
is_router x = grind (arith, common_steps, router_with)

pub are_routers : AreRouters ((97 ∷ []) ∷ (98 ∷ []) ∷ (99 ∷ []) ∷ []) (addr 0 ∷ addr 1 ∷ addr 2 ∷ []) (net ∷ [])
are_routers = grind (arith, common_steps)

abbrev pub arcs : List RadioArc
arcs = arc 0 1 ∷ arc 1 0 ∷ arc 1 2 ∷ arc 2 1 ∷ []

pub are_arcs : AreArcs (1 ∷ 1 ∷ 1 ∷ []) (map ends_of arcs)
are_arcs = record { few = omega arith; join_routers = refl; distinct = refl }
