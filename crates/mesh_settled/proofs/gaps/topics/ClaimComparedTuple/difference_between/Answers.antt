use Rattle.mesh_settled.proofs.Common.{Some, [], ◌∷◌, Number, cost_field}
use Rattle.mesh_settled.proofs.gaps.topics.ClaimComparedTuple.difference_between.Goals as goal

pub returns : goal.returns
returns c =
    let h = c.args.held in
    let g = c.args.given in
    c.first_of.ensures (Number (Some h.ansn)) (Number (Some g.ansn)) (cost_field h.metric ∷ Number h.distance ∷ []) (cost_field g.metric ∷ Number g.distance ∷ [])
    (rw (c.from.ensures, c.from-2.ensures) at c.numbers-ansn.ensures)
    (c.first_of-second.ensures (cost_field h.metric) (cost_field g.metric) (Number h.distance ∷ []) (Number g.distance ∷ [])
    (rw (c.known_cost.ensures, c.known_cost-2.ensures) at c.numbers-metric.ensures)
    (c.first_of-last.ensures (Number h.distance) (Number g.distance) [] [] (rw (c.number.ensures, c.number-2.ensures) at c.numbers-distance.ensures) tt))
