use Rattle.mesh_run.proofs.Common.{ℕ, ◌<◌, subst}
use Rattle.mesh_run.proofs.TurnsLemmas.Positions.{acts_nothing}
use Rattle.mesh_run.proofs.turns.events.tick_due.Goals as goal

pub returns-clause-acts : goal.returns-clause-acts
returns-clause-acts g c = acts_nothing c.args.moment.end c.args.moment.now (g.M.DeferringRouter.state c.args.router.now) (g.A.Air.reports c.args.air.now) c.args.tally.now
    c.if-moment.false (subst (λ (n : ℕ). c.args.moment.now < n) c.due_next.ensures c.if-due_next-moment.false)
