use Rattle.mesh_replay.proofs.RelaysLemmas.Chosen.{rises_on}
use Rattle.mesh_replay.proofs.checking.relays.is_ascending.Goals as goal

pub loop-i-preserved : goal.loop-i-preserved
loop-i-preserved c = rises_on c.args.addrs.now c.loop-i.i (record { 0 = 0 }) c.loop-i.auto.i c.loop-i-test.true c.if-addrs-i.false c.loop-i.invariant
