use Rattle.mesh_replay.proofs.Common.{arith, common_steps, ◌≡◌, refl, length, List, Some, slice_get, slice_get_read, slice_get_within, Delivered}
use Rattle.mesh_replay.proofs.TrafficLemmas.Hearing.{least_of_none, read_as, is_earlier, is_no_earlier, is_first_of_all}
use Rattle.mesh_replay.proofs.traffic.air.first_heard.Goals as goal
use Rattle.mesh_replay.proofs.traffic.air.first_heard.Goals.{then-index, else-index}

pub loop-place-init : goal.loop-place-init
loop-place-init c = least_of_none c.args.flights.now.items c.requires.some

pub index-requires : goal.index-requires
index-requires c = grind (arith, common_steps, slice_get_within, c.loop-place.invariant)

pub returns-then-index-least : goal.returns-then-index-least
returns-then-index-least c =
    let least = c.loop-place.invariant in
    let is : least.flight ≡ c.index.result.now = read_as c.args.flights.now.items c.loop-place.place c.loop-place.first c.index.result.now least c.index.ensures in
    is_first_of_all c.args.least c.args.flights.now.items c.loop-place.place c.loop-place.first c.requires.least least (rw is c.if-index-least.true)

pub index-requires-in-loop-place-2 : goal.index-requires-in-loop-place-2
index-requires-in-loop-place-2 c = grind (arith, common_steps, slice_get_within, c.loop-place.invariant)

pub loop-place-preserved : goal.loop-place-preserved
loop-place-preserved c =
    let flights : List Delivered = c.args.flights.now.items in
    let least = c.loop-place.invariant in
    let one : Delivered = c.index-in-loop-place.result.now in
    let at : slice_get flights c.loop-place.place ≡ Some one =
    slice_get_read flights (length flights) c.loop-place.place one refl (rw (← c.args.flights.now.ok.0, ← c.len-place-end.ensures) c.loop-place-test.true) c.index-in-loop-place.ensures in
    let is : least.flight ≡ c.index-in-loop-place-2.result.now = read_as flights c.loop-place.place c.loop-place.first c.index-in-loop-place-2.result.now least c.index-in-loop-place-2.ensures in
    elim c.if-index.branch [
      | then-index w ↦ rw w.first-is (is_earlier flights c.loop-place.place c.loop-place.first one at least (rw is w.if-index.true))
      | else-index w ↦ rw w.first-is (is_no_earlier flights c.loop-place.place c.loop-place.first one at least (rw is w.if-index.false))
    ]
