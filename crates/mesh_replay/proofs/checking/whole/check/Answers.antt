use Rattle.mesh_replay.proofs.Common.{arith, common_steps, map, NetState, net_of}
use Rattle.mesh_replay.proofs.SceneLemmas.Answering.{read_on, read_to_end, stopped}
use Rattle.mesh_replay.proofs.checking.whole.check.Goals as goal

pub returns-in-Unfit : goal.returns-in-Unfit
returns-in-Unfit g c = grind (arith, common_steps, stopped, c.loop.invariant.read, c.in_ok-next_event.ensures.comes, c.in-Unfit.is)

pub at_end-requires-clause-over : goal.at_end-requires-clause-over
at_end-requires-clause-over g c =
    let before : NetState = net_of c.args.case.now (map g.R.RouterOfTrace.state c.loop.scene.routers.items) c.loop.scene.last_ticks c.loop.progress in
    let after : NetState = net_of c.args.case.now (map g.R.RouterOfTrace.state c.next_event.new.scene.routers.items) c.next_event.new.scene.last_ticks c.next_event.new.progress in
    read_to_end c.args.case.now c.loop.progress c.next_event.new.progress before after c.in_ok-next_event.field-0 c.loop.invariant.read c.in_ok-next_event.ensures.comes c.in-Over.is

pub loop-preserved : goal.loop-preserved
loop-preserved g c = grind (arith, common_steps, read_on, c.in_ok-next_event.ensures.sound, c.in-Fits.is, c.loop.invariant.read, c.in_ok-next_event.ensures.comes)
