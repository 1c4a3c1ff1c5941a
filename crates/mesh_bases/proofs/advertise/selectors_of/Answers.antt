use Rattle.mesh_bases.proofs.Common.{ℕ, sym, arith, [], Addr4, Neighbour, adds_more, adds_all, IsSelectorBy, none_within}
use Rattle.mesh_bases.proofs.advertise.selectors_of.Goals as goal
use Rattle.mesh_bases.proofs.advertise.selectors_of.Goals.{in-Some+in_ok-put_selector, in_default}

pub loop-place-preserved : goal.loop-place-preserved
loop-place-preserved g c =
    let base = (g.N.Near4.near c.args.near.now).neighbours in
    let k = c.loop-place.place in
    elim c.match-neighbour.branch [
      | in-Some+in_ok-put_selector w ↦
          let e : Addr4 × (Neighbour × ℕ) = (w.in-Some.originator.now, (w.in-Some.neighbour.now, w.in-Some.field-0-2)) in
          rw w.selectors-is (adds_more (λ (d : Addr4 × (Neighbour × ℕ)). IsSelectorBy d.0 d.1.0) base k e [] c.loop-place.selectors.items w.put_selector.new.selectors.items (sym w.in-Some.ensures) c.loop-place.invariant w.in_ok-put_selector.ensures)
      | in_default w ↦ none_within base k (omega (arith, c.neighbour_count-place-end.ensures)) w.in_default.ensures
    ]

pub returns : goal.returns
returns g c = adds_all _ _ c.loop-place.place _ _ (omega (arith, c.neighbour_count-place-end.ensures)) c.loop-place.invariant
