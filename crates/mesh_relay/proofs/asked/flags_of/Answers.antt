use Rattle.mesh_relay.proofs.Flags.{none_flagged, one_flagged, all_flagged, not_willing}
use Rattle.mesh_relay.proofs.asked.flags_of.Goals as goal

pub loop-id-init : goal.loop-id-init
loop-id-init c = none_flagged c.args.willing.now c.args.ids.now _ c.in_ok-flags.ensures

pub loop-id-preserved : goal.loop-id-preserved
loop-id-preserved c =
    one_flagged c.args.willing.now c.args.ids.now c.loop-id.flags.items c.loop-id.id-index _ _ c.loop-id-test.true (rw c.in-Some.is at c.place_of.ensures) c.loop-id.invariant

pub returns-in-None : goal.returns-in-None
returns-in-None c = λ all.
    not_willing c.args.willing.now c.args.ids.now c.loop-id.id-index _ c.loop-id-test.true (rw c.in-None.is at c.place_of.ensures) all

pub returns : goal.returns
returns c = all_flagged c.args.willing.now c.args.ids.now c.loop-id.flags.items c.loop-id.id-index c.loop-id-test.false c.loop-id.invariant
