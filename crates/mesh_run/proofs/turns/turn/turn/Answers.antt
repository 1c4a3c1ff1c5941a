use Rattle.mesh_run.proofs.Common.{length, arith, on_err_of}
use Rattle.mesh_run.proofs.TurnsLemmas.Positions.{turn_stops, turn_ends, turn_goes, turn_breaks}
use Rattle.mesh_run.proofs.turns.turn.turn.Goals as goal

pub returns-in_err-tick_due-clause-stops : goal.returns-in_err-tick_due-clause-stops
returns-in_err-tick_due-clause-stops g c = on_err_of c.from_residual.result
    (turn_stops c.args.setup.now.end (length c.args.setup.now.ports) c.args.greatest c.now-told.result (g.M.DeferringRouter.state c.args.router.now) (g.C.Clock.moments c.args.clock.now) (g.C.Clock.moments c.now-told.new.self)
    (g.A.Air.reports c.args.air.now) (g.A.Air.reports c.tick_due.new.air) c.now-told.ensures.told c.in_err-tick_due.ensures.silent)

pub returns-then-setup-now-clause-turns : goal.returns-then-setup-now-clause-turns
returns-then-setup-now-clause-turns g c = turn_ends c.args.setup.now.end (length c.args.setup.now.ports) c.args.greatest c.min-now.result c.now-told.result c.max-greatest.result
    (g.M.DeferringRouter.state c.args.router.now) (g.M.DeferringRouter.state c.tick_due.new.router) (g.C.Clock.moments c.args.clock.now) (g.C.Clock.moments c.now-told.new.self)
    (g.A.Air.reports c.args.air.now) (g.A.Air.reports c.tick_due.new.air) c.args.tally.now c.tick_due.new.tally
    (record { going = c.requires.going; greatest = c.max-greatest.ensures; now_is = c.min-now.ensures; tells = c.now-told.ensures.told; acts = c.in_ok-tick_due.ensures.acts }) c.if-setup-now.true

pub returns-in_err-listen_all-clause-stops : goal.returns-in_err-listen_all-clause-stops
returns-in_err-listen_all-clause-stops g c = rw (← c.len-count.ensures) (on_err_of c.from_residual-in_err-listen_all.result
    (turn_breaks c.args.setup.now.end c.len-count.result c.args.greatest c.min-now.result c.now-told.result c.max-greatest.result
    (g.M.DeferringRouter.state c.args.router.now) (g.M.DeferringRouter.state c.tick_due.new.router) (g.C.Clock.moments c.args.clock.now) (g.C.Clock.moments c.now-told.new.self)
    (g.A.Air.reports c.args.air.now) (g.A.Air.reports c.tick_due.new.air) (g.A.Air.reports c.listen_all.new.air) c.args.tally.now c.tick_due.new.tally
    (record { going = c.requires.going; greatest = c.max-greatest.ensures; now_is = c.min-now.ensures; tells = c.now-told.ensures.told; acts = c.in_ok-tick_due.ensures.acts })
    (omega (arith, c.if-setup-now.false)) c.in_err-listen_all.ensures.breaks))

pub returns-clause-turns : goal.returns-clause-turns
returns-clause-turns g c = rw (← c.len-count.ensures) (turn_goes c.args.setup.now.end c.len-count.result c.args.greatest c.min-now.result c.now-told.result c.max-greatest.result
    (g.M.DeferringRouter.state c.args.router.now) (g.M.DeferringRouter.state c.tick_due.new.router) (g.M.DeferringRouter.state c.listen_all.new.router) (g.C.Clock.moments c.args.clock.now) (g.C.Clock.moments c.now-told.new.self)
    (g.A.Air.reports c.args.air.now) (g.A.Air.reports c.tick_due.new.air) (g.A.Air.reports c.listen_all.new.air) c.args.tally.now c.tick_due.new.tally c.listen_all.new.tally
    (record { going = c.requires.going; greatest = c.max-greatest.ensures; now_is = c.min-now.ensures; tells = c.now-told.ensures.told; acts = c.in_ok-tick_due.ensures.acts })
    (omega (arith, c.if-setup-now.false)) c.in_ok-listen_all.ensures.goes)
