use Rattle.mesh_relay.proofs.Common.{◌≡◌, ◌&&◌, drop, list_any, addr_eq, has_way_within}
use Rattle.mesh_relay.proofs.sets.is_led_to_within.Given as goal

abbrev pub invariant-loop-far : goal.invariant-loop-far
invariant-loop-far l = list_any (λ f. addr_eq f.addr l.addr && has_way_within l.graph l.among f l.most) (drop l.far-index l.graph.far) ≡ list_any (λ f. addr_eq f.addr l.addr && has_way_within l.graph l.among f l.most) l.graph.far
