use Rattle.mesh_nhdp.proofs.Common.{◌≡◌, ℕ, ◌↔◌, length, Contains, subst, arith, Addr4, IsWantedAt, gathers_more, below_contains, iff_on, SomeBelow, slice_get-get_or}
use Rattle.mesh_nhdp.proofs.near_addresses.addresses_of.Goals as goal

pub loop-originator-preserved : goal.loop-originator-preserved
loop-originator-preserved g c =
    gathers_more c.args.originators.now (λ o a. IsWantedAt (g.T.Table.content c.args.table.now) c.args.wanted o a) c.loop-originator.originator-index _ _ _
    (slice_get-get_or c.args.originators.now c.loop-originator.originator-index _ (omega arith)) c.loop-originator.invariant c.in_ok-add_wanted_at.ensures

pub returns : goal.returns
returns g c a =
    let P : Addr4 → Type 0 = λ o. IsWantedAt (g.T.Table.content c.args.table.now) c.args.wanted o a in
    let all : c.loop-originator.originator-index ≡ length c.args.originators.now = omega arith in
    iff_on (subst (λ (n : ℕ). Contains c.loop-originator.addrs.items a ↔ SomeBelow c.args.originators.now n P) all (c.loop-originator.invariant a)) (below_contains c.args.originators.now P)
