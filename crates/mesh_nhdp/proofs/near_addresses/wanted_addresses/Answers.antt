use Rattle.mesh_nhdp.proofs.Common.{◌≡◌, ℕ, length, Contains, sym, subst, arith, Addr4, Neighbour, addr_equiv, same_addr, IsWanted, gathers_more, found_below, below_found, SomeBelow, none_within}
use Rattle.mesh_nhdp.proofs.near_addresses.wanted_addresses.Goals as goal

pub returns-in-None : goal.returns-in-None
returns-in-None g c = none_within (g.T.Table.content c.args.table.now) c.loop-place.place (omega arith) c.in-None.ensures

pub loop-place-preserved : goal.loop-place-preserved
loop-place-preserved g c =
    gathers_more (g.T.Table.content c.args.table.now) (λ (e : Addr4 × (Neighbour × ℕ)) a. IsWanted c.args.wanted e.1.0 × Contains e.1.0.addrs a) c.loop-place.place
    (c.in-Some.field-0-0.now, (c.in-Some.neighbour.now, c.in-Some.field-0-2)) _ _ (sym c.in-Some.ensures) c.loop-place.invariant c.in_ok-add_wanted-in-Some.ensures

pub returns : goal.returns
returns g c a =
    let base = g.T.Table.content c.args.table.now in
    let P : Addr4 × (Neighbour × ℕ) → Type 0 = λ e. IsWanted c.args.wanted e.1.0 × Contains e.1.0.addrs a in
    let all : c.loop-place.place ≡ length base = omega arith in (
      λ h. let s : SomeBelow base (length base) P = subst (λ n. SomeBelow base n P) all ((c.loop-place.invariant a).0 h) in
          let (o, e, is, has) = found_below addr_equiv same_addr base P c.len-place-end.ensures.distinct s in (o, e.0, e.1, is, has.0, has.1),
      λ h. let (o, n, until, is, wanted, has) = h in
          (c.loop-place.invariant a).1 (subst (λ n. SomeBelow base n P) (sym all) (below_found addr_equiv same_addr base P o (n, until) is (wanted, has))),
    )
