use Rattle.mesh_run.proofs.Common.{◌≡◌, ℕ, length, ◌+◌, subst, refl, arith, on_err_of, IsReady, at, moment_of}
use Rattle.mesh_run.proofs.TurnsLemmas.Positions.{turning_nothing, turning_more, turning_at, turning_stops}
use Rattle.mesh_run.proofs.turns.turns.turn_on.Goals as goal

pub loop-done-init : goal.loop-done-init
loop-done-init g c = record {
  turns = turning_nothing c.args.setup.now.end (length c.args.setup.now.ports) (at (g.M.DeferringRouter.state c.args.router.now) 0 (length c.args.setup.now.ports)) (g.C.Clock.moments c.args.clock.now) (g.A.Air.reports c.args.air.now) c.args.tally.now;
  going = omega (arith, c.args.setup.now.end_in_range.least);
  ready = c.requires.ready;
  attached = refl;
  later = omega arith;
  longest = c.requires.longest;
}

pub returns-in_err-greatest-clause-stops : goal.returns-in_err-greatest-clause-stops
returns-in_err-greatest-clause-stops g c = on_err_of c.from_residual.result
    (turning_stops c.args.most c.args.setup.now.end (length c.args.setup.now.ports) (at (g.M.DeferringRouter.state c.args.router.now) 0 (length c.args.setup.now.ports)) (at (g.M.DeferringRouter.state c.loop-done.router) c.loop-done.greatest (length c.args.setup.now.ports)) c.loop-done.done 0 c.loop-done.greatest
    (g.C.Clock.moments c.args.clock.now) (g.C.Clock.moments c.loop-done.clock) (g.C.Clock.moments c.turn.new.clock)
    (g.A.Air.reports c.args.air.now) (g.A.Air.reports c.loop-done.air) (g.A.Air.reports c.turn.new.air) c.args.tally.now c.loop-done.tally
    c.loop-done-test.true c.loop-done.invariant.turns c.in_err-greatest.ensures.stops)

pub returns-then-setup-greatest-clause-turns : goal.returns-then-setup-greatest-clause-turns
returns-then-setup-greatest-clause-turns g c =
    turning_more c.args.setup.now.end (length c.args.setup.now.ports) (at (g.M.DeferringRouter.state c.args.router.now) 0 (length c.args.setup.now.ports)) (at (g.M.DeferringRouter.state c.loop-done.router) c.loop-done.greatest (length c.args.setup.now.ports))
    (at (g.M.DeferringRouter.state c.turn.new.router) (moment_of 0 c.in_ok-greatest.greatest) (length c.args.setup.now.ports)) c.loop-done.done 1 0 c.loop-done.greatest c.in_ok-greatest.greatest
    (g.C.Clock.moments c.args.clock.now) (g.C.Clock.moments c.loop-done.clock) (g.C.Clock.moments c.turn.new.clock)
    (g.A.Air.reports c.args.air.now) (g.A.Air.reports c.loop-done.air) (g.A.Air.reports c.turn.new.air) c.args.tally.now c.loop-done.tally c.turn.new.tally
    c.loop-done.invariant.turns c.in_ok-greatest.ensures.turns

pub loop-done-preserved : goal.loop-done-preserved
loop-done-preserved g c =
    let i = c.loop-done.invariant in
    let h = c.in_ok-greatest.ensures in
    let same : moment_of 0 c.in_ok-greatest.greatest ≡ c.in_ok-greatest.greatest = omega (arith, c.args.setup.now.end_in_range.most, c.if-setup-greatest.false) in
    let start = at (g.M.DeferringRouter.state c.args.router.now) 0 (length c.args.setup.now.ports) in
    record {
      turns = turning_at c.args.setup.now.end (length c.args.setup.now.ports) start (g.M.DeferringRouter.state c.turn.new.router) (moment_of 0 c.in_ok-greatest.greatest) c.in_ok-greatest.greatest (c.loop-done.done + 1) 0 c.in_ok-greatest.greatest
          (g.C.Clock.moments c.args.clock.now) (g.C.Clock.moments c.turn.new.clock) (g.A.Air.reports c.args.air.now) (g.A.Air.reports c.turn.new.air) c.args.tally.now c.turn.new.tally same
          (turning_more c.args.setup.now.end (length c.args.setup.now.ports) start (at (g.M.DeferringRouter.state c.loop-done.router) c.loop-done.greatest (length c.args.setup.now.ports))
          (at (g.M.DeferringRouter.state c.turn.new.router) (moment_of 0 c.in_ok-greatest.greatest) (length c.args.setup.now.ports)) c.loop-done.done 1 0 c.loop-done.greatest c.in_ok-greatest.greatest
          (g.C.Clock.moments c.args.clock.now) (g.C.Clock.moments c.loop-done.clock) (g.C.Clock.moments c.turn.new.clock)
          (g.A.Air.reports c.args.air.now) (g.A.Air.reports c.loop-done.air) (g.A.Air.reports c.turn.new.air) c.args.tally.now c.loop-done.tally c.turn.new.tally
          i.turns h.turns);
      going = omega (arith, c.if-setup-greatest.false);
      ready = subst (λ (n : ℕ). IsReady (g.M.DeferringRouter.state c.turn.new.router) (g.A.Air.attached c.turn.new.air) n) same h.ready;
      attached = cc;
      later = omega (arith, i.later, h.later);
      longest = h.longest;
    }
