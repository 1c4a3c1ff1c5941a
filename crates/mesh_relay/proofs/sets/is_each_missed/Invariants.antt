use Rattle.mesh_relay.proofs.Common.{◌≡◌, ◌||◌, not, drop, list_all, is_in_set, without, can_be_left_out, is_missed}
use Rattle.mesh_relay.proofs.sets.is_each_missed.Given as goal

abbrev pub invariant-loop-near : goal.invariant-loop-near
invariant-loop-near l =
    list_all (λ n. not (is_in_set l.among n) || not (can_be_left_out n) || is_missed l.graph (without l.among n.id)) (drop l.near-index l.graph.near)
    ≡ list_all (λ n. not (is_in_set l.among n) || not (can_be_left_out n) || is_missed l.graph (without l.among n.id)) l.graph.near
