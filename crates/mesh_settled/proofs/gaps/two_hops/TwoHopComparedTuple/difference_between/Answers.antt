use Rattle.mesh_settled.proofs.Common.{[], ◌∷◌, Number, known_cost}
use Rattle.mesh_settled.proofs.gaps.two_hops.TwoHopComparedTuple.difference_between.Goals as goal

pub returns : goal.returns
returns c =
    let h = c.args.held in
    let g = c.args.given in
    c.first_of-2.ensures (Number (known_cost h.metric_in)) (Number (known_cost g.metric_in)) (Number (known_cost h.metric_out) ∷ []) (Number (known_cost g.metric_out) ∷ [])
    (rw (c.known_cost.ensures, c.known_cost-2.ensures) at c.numbers-metric_in.ensures)
    (c.first_of.ensures (Number (known_cost h.metric_out)) (Number (known_cost g.metric_out)) [] [] (rw (c.known_cost-3.ensures, c.known_cost-4.ensures) at c.numbers-metric_out.ensures) tt)
