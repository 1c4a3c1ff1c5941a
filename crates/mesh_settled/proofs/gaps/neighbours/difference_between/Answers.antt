use Rattle.mesh_settled.proofs.Common.{[], ◌∷◌, Some, ◌+◌, ◌*◌, Number, cost_field, known_cost, flag_field, all_addresses}
use Rattle.mesh_settled.specs.Gaps.Fields.{Addresses}
use Rattle.mesh_settled.proofs.gaps.neighbours.difference_between.Goals as goal

pub returns : goal.returns
returns c =
    let h = c.args.held.now in
    let g = c.args.given in
    let r = g.settings.now in
    let ours = Number (Some (16 * h.willing.flooding + h.willing.routing)) in
    let theirs = Number (Some (16 * r.willing.flooding + r.willing.routing)) in
    c.first_of.ensures (Addresses h.addrs) (Addresses (all_addresses r.interfaces)) (ours ∷ Number (known_cost h.metric_in) ∷ Number (known_cost h.metric_out) ∷ flag_field h.selector ∷ []) (theirs ∷ cost_field g.metric_in ∷ cost_field g.metric_out ∷ flag_field g.selector ∷ [])
    (rw c.as_slice.ensures at c.owned-addrs.ensures)
    (c.first_of-second.ensures ours theirs (Number (known_cost h.metric_in) ∷ Number (known_cost h.metric_out) ∷ flag_field h.selector ∷ []) (cost_field g.metric_in ∷ cost_field g.metric_out ∷ flag_field g.selector ∷ [])
    (rw (c.willing.ensures, c.willing-2.ensures) at c.numbers-ready.ensures)
    (c.first_of-third.ensures (Number (known_cost h.metric_in)) (cost_field g.metric_in) (Number (known_cost h.metric_out) ∷ flag_field h.selector ∷ []) (cost_field g.metric_out ∷ flag_field g.selector ∷ [])
    (rw (c.known_cost.ensures, c.known_cost-2.ensures) at c.numbers-metric_in.ensures)
    (c.first_of-fourth.ensures (Number (known_cost h.metric_out)) (cost_field g.metric_out) (flag_field h.selector ∷ []) (flag_field g.selector ∷ [])
    (rw (c.known_cost-3.ensures, c.known_cost-4.ensures) at c.numbers-metric_out.ensures)
    (c.first_of-last.ensures (flag_field h.selector) (flag_field g.selector) [] [] c.flags-selector.ensures tt))))
