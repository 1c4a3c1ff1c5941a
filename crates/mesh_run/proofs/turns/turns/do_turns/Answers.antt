use Rattle.mesh_run.proofs.Common.{on_err_of}
use Rattle.mesh_run.proofs.TurnsLemmas.Whole.{does_turns, stops_turns, stops_before}
use Rattle.mesh_run.proofs.turns.turns.do_turns.Goals as goal

pub returns-in_err-frame-clause-stops : goal.returns-in_err-frame-clause-stops
returns-in_err-frame-clause-stops g c = on_err_of c.from_residual.result
    (stops_before c.args.setup.now c.args.most (g.M.DeferringRouter.state c.args.router.now) (g.C.Clock.moments c.args.clock.now) (g.A.Air.reports c.args.air.now) c.requires.opening)

pub returns-in_err-stop-clause-stops : goal.returns-in_err-stop-clause-stops
returns-in_err-stop-clause-stops g c = on_err_of c.from_residual-in_err-stop.result
    (stops_turns c.args.setup.now c.args.most (g.M.DeferringRouter.state c.args.router.now) (g.C.Clock.moments c.args.clock.now) (g.C.Clock.moments c.turn_on.new.clock)
    (g.A.Air.reports c.args.air.now) (g.A.Air.reports c.turn_on.new.air) c.requires.opening c.in_err-stop.ensures.stops)

pub returns-clause-done : goal.returns-clause-done
returns-clause-done g c =
    does_turns c.args.setup.now (g.M.DeferringRouter.state c.args.router.now) (g.M.DeferringRouter.state c.turn_on.new.router) c.in_ok-stop.stop.turns c.in_ok-stop.stop.greatest
    (g.C.Clock.moments c.args.clock.now) (g.C.Clock.moments c.turn_on.new.clock) (g.A.Air.reports c.args.air.now) (g.A.Air.reports c.turn_on.new.air) c.turn_on.new.tally
    c.requires.opening c.in_ok-stop.ensures.turns
