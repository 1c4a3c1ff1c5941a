use Rattle.mesh_settled.proofs.Common.{slice_get-get_or, all_addresses}
use Rattle.mesh_settled.proofs.GapsLemmas.Apart.{one_more, all_missing}
use Rattle.mesh_settled.proofs.GapsLemmas.NeighbourLemmas.{is_own}
use Rattle.mesh_settled.proofs.gaps.owned.least_stranger.Goals as goal

pub loop-i-preserved : goal.loop-i-preserved
loop-i-preserved c =
    rw c.lower-best.ensures (one_more c.args.addrs.now (all_addresses c.args.settings.now.interfaces) c.loop-i.i _ (slice_get-get_or c.args.addrs.now c.loop-i.i _ c.loop-i-test.true) c.loop-i.best c.is_address_of.result
    (is_own c.args.settings.now _ c.is_address_of.result c.is_address_of.ensures) c.loop-i.invariant)

pub returns : goal.returns
returns c = all_missing c.args.addrs.now (all_addresses c.args.settings.now.interfaces) c.loop-i.i c.loop-i.best c.loop-i-test.false c.loop-i.invariant
