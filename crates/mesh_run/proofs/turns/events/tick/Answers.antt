use Rattle.mesh_run.proofs.TurnsLemmas.Tellings.{on_its_own}
use Rattle.mesh_run.proofs.turns.events.tick.Goals as goal

pub hand_over-requires-clause-on : goal.hand_over-requires-clause-on
hand_over-requires-clause-on g c = on_its_own (g.M.DeferringRouter.state c.args.router.now).settings (g.A.Air.attached c.args.air.now) c.tick_until.new.out c.requires.ready.attached_are c.in_ok-tick_until.ensures.sendable
