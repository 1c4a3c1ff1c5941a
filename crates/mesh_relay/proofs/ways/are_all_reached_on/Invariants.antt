use Rattle.mesh_relay.proofs.Common.{◌≡◌, false, drop, get_or, are_all_reached_on}
use Rattle.mesh_relay.proofs.ways.are_all_reached_on.Given as goal

abbrev pub invariant-loop-way : goal.invariant-loop-way
invariant-loop-way l =
    are_all_reached_on (λ w. get_or l.taken w.place false) l.addr l.reached (drop l.way-index l.ways)
    ≡ are_all_reached_on (λ w. get_or l.taken w.place false) l.fn.begun l.fn.begun_reached l.ways
