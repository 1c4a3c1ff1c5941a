use Rattle.mesh_settled.proofs.Common.{[], ◌∷◌, Number, cost_field, known_cost, flag_field}
use Rattle.mesh_settled.specs.Gaps.Fields.{Addresses}
use Rattle.mesh_settled.proofs.gaps.links.link_difference.Goals as goal

pub returns : goal.returns
returns c =
    let h = c.args.held.now in
    let g = c.args.given in
    c.first_of.ensures (Addresses h.addrs) (Addresses g.addrs.now) (cost_field h.link_in ∷ Number (known_cost h.link_out) ∷ flag_field h.selector ∷ []) (cost_field g.link_in ∷ cost_field g.link_out ∷ flag_field g.selector ∷ [])
    (rw c.as_slice.ensures at c.addresses-addrs.ensures)
    (c.first_of-second.ensures (cost_field h.link_in) (cost_field g.link_in) (Number (known_cost h.link_out) ∷ flag_field h.selector ∷ []) (cost_field g.link_out ∷ flag_field g.selector ∷ [])
    (rw (c.known_cost.ensures, c.known_cost-2.ensures) at c.numbers-link_in.ensures)
    (c.first_of-third.ensures (Number (known_cost h.link_out)) (cost_field g.link_out) (flag_field h.selector ∷ []) (flag_field g.selector ∷ [])
    (rw (c.known_cost-3.ensures, c.known_cost-4.ensures) at c.numbers-link_out.ensures)
    (c.first_of-last.ensures (flag_field h.selector) (flag_field g.selector) [] [] c.flags-selector.ensures tt)))
