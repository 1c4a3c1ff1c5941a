-- The ends of a scenario's arcs.
use Rattle.mesh_machine.proofs.Common.{◌≡◌, ℕ, List, length, Some, map, slice_get, ltb-true, and_parts, RadioArc, RouterSettings, Scenario, LeavesInterface, EntersInterface, all_at, item_counted as counted}
use Rattle.mesh_atoms.specs.Settings.{Ends, is_interface, joins_routers}
use Rattle.mesh_machine.proofs.Places.{mapped_at}

ends_of : RadioArc → Ends
ends_of a = record { from = a.from; from_iface = a.from_iface; to = a.to; to_iface = a.to_iface }

pub arc_ends : (s : Scenario) (n : ℕ) (arc : RadioArc) → slice_get s.arcs n ≡ Some arc → LeavesInterface s.routers arc × EntersInterface s.routers arc
unfolding ends_of
arc_ends s n arc at =
    let counts : List ℕ = map (λ (r : RouterSettings). length r.interfaces) s.routers in
    let joins = all_at (joins_routers counts) (map ends_of s.arcs) n (ends_of arc) s.sound_arcs.join_routers (mapped_at ends_of s.arcs n arc at) in
    let first = and_parts (is_interface counts arc.from arc.from_iface) _ joins in
    let second = and_parts (is_interface counts arc.to arc.to_iface) _ first.1 in
    let out = counted (λ (r : RouterSettings). length r.interfaces) s.routers arc.from arc.from_iface (ltb-true _ _ first.0) in
    let home = counted (λ (r : RouterSettings). length r.interfaces) s.routers arc.to arc.to_iface (ltb-true _ _ second.0) in (
      record { router = out.0; stands = out.1; iface = out.2 },
      record { router = home.0; stands = home.1; iface = home.2 },
    )
