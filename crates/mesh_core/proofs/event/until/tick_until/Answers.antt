use Rattle.mesh_core.proofs.Common.{refl, le-leb}
use Rattle.mesh_core.proofs.Until.{ticked_until}
use Rattle.mesh_core.proofs.event.until.tick_until.Goals as goal

pub tick-requires-clause-ready : goal.tick-requires-clause-ready
tick-requires-clause-ready g c = c.requires.ready c.if-spent.false

pub returns : goal.returns
returns g c = record {
  does = ticked_until _ c.args.until c.clear.ensures (λ late. refl) (le-leb c.args.until c.args.now) c.in_ok-tick.ensures.ticks;
  unspent = c.if-spent.false;
  spent = refl;
}
