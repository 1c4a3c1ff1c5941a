use Rattle.mesh_links.proofs.Common.{◌<◌, arith, refl, length, false≢true, lookup_from_place, place_from_lookup, slice_get_within, link_eq, link_equiv, true_false}
use Rattle.mesh_links.proofs.staying.are_all_unchanged.Goals as goal

pub returns-then-not-is_unchanged_at : goal.returns-then-not-is_unchanged_at
returns-then-not-is_unchanged_at g c =
    let links = g.T.Table.content c.args.table.now in (
      λ h. absurd (false≢true h),
      λ all. (let yes = c.is_unchanged_at.ensures.1 (λ x at. all x.0 x.1 (lookup_from_place link_equiv links c.loop-place.place x.0 x.1 c.len-place-end.ensures.distinct at)) in absurd (true_false yes c.if-not-is_unchanged_at.true)),
    )

pub returns : goal.returns
returns g c =
    let links = g.T.Table.content c.args.table.now in (
      λ h key e found. (
          let (k, q, at, test) = place_from_lookup (link_eq key) links e found in
          let within : k < length links = slice_get_within links k (q, e) at in
          c.loop-place.invariant k (q, e) (omega (arith, within, c.len-place-end.ensures.value, c.loop-place-test.false)) at),
      λ all. refl,
    )
