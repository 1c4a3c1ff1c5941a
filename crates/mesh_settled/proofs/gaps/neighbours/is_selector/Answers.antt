use Rattle.mesh_settled.proofs.GapsLemmas.JointLemmas.{one_not}
use Rattle.mesh_settled.proofs.GapsLemmas.NeighbourLemmas.{SaysOn, shows_on, some_shows, none_shows}
use Rattle.mesh_settled.proofs.gaps.neighbours.is_selector.Goals as goal

pub returns-then-is_any_relay : goal.returns-then-is_any_relay
returns-then-is_any_relay g c =
    let q = g.R.RouterView.state c.args.other.now in
    some_shows q c.args.now c.args.settings.now c.loop-i.i ((shows_on q c.args.now c.args.settings.now c.loop-i.i c.addrs_of.result.now c.is_any_relay.result c.addrs_of.ensures c.is_any_relay.ensures).0 c.if-is_any_relay.true)

pub loop-i-preserved : goal.loop-i-preserved
loop-i-preserved g c =
    let q = g.R.RouterView.state c.args.other.now in
    one_not (SaysOn q c.args.now c.args.settings.now) c.loop-i.i c.is_any_relay.result (shows_on q c.args.now c.args.settings.now c.loop-i.i c.addrs_of.result.now c.is_any_relay.result c.addrs_of.ensures c.is_any_relay.ensures)
    c.if-is_any_relay.false c.loop-i.invariant

pub returns : goal.returns
returns g c = none_shows (g.R.RouterView.state c.args.other.now) c.args.now c.args.settings.now c.loop-i.i (rw c.len-i-end.ensures at c.loop-i-test.false) c.loop-i.invariant
