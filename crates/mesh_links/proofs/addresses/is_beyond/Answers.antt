use Rattle.mesh_links.proofs.Common.{get_or, refl, Contains, false≢true, AllWithin-more, AllWithin-upto, All-from_all_within, All-contains, Contains-get_or, Addr4, true_false}
use Rattle.mesh_links.proofs.Tied.{at_any}
use Rattle.mesh_links.proofs.addresses.is_beyond.Goals as goal

pub loop-addr-preserved : goal.loop-addr-preserved
loop-addr-preserved c =
    let within : Addr4 → Type 0 = λ a. Contains c.args.others.now a in
    AllWithin-more within c.args.addrs.now 0 c.loop-addr.addr-index c.loop-addr.invariant
    (at_any within c.args.addrs.now c.loop-addr.addr-index _ c.loop-addr-test.true (c.contains.ensures.0 c.if-not-contains.false))

pub returns-then-not-contains : goal.returns-then-not-contains
returns-then-not-contains c =
    let none : Addr4 = record { 0 = 0 } in (
      λ e. (
        get_or c.args.addrs.now c.loop-addr.addr-index none,
        Contains-get_or c.args.addrs.now c.loop-addr.addr-index none c.loop-addr-test.true,
        λ has. true_false (c.contains.ensures.1 has) c.if-not-contains.true,
      ),
      λ w. refl,
    )

pub returns : goal.returns
returns c =
    let within : Addr4 → Type 0 = λ a. Contains c.args.others.now a in (
      λ e. absurd (false≢true e),
      λ (a, has, out). absurd (out (All-contains within c.args.addrs.now a
          (All-from_all_within within c.args.addrs.now (AllWithin-upto within c.args.addrs.now 0 c.loop-addr.addr-index _ c.loop-addr-test.false c.loop-addr.invariant)) has)),
    )
