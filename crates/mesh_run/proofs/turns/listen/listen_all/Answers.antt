use Rattle.mesh_run.proofs.Common.{◌≡◌, [], refl, arith, on_err_of, at}
use Rattle.mesh_run.proofs.TurnsLemmas.Positions.{going_nothing, going_hears, broken_hears, going_at}
use Rattle.mesh_run.proofs.turns.listen.listen_all.Goals as goal

pub loop-iface-init : goal.loop-iface-init
loop-iface-init g c = record {
  goes = going_nothing c.args.moment.end c.args.count (at (g.M.DeferringRouter.state c.args.router.now) c.args.moment.now 0) (g.A.Air.reports c.args.air.now) c.args.tally.now;
  ready = c.requires.ready;
  attached = refl;
  later = omega arith;
  longest = c.requires.longest;
}

pub returns-in_err-listen-clause-breaks : goal.returns-in_err-listen-clause-breaks
returns-in_err-listen-clause-breaks g c = on_err_of c.from_residual.result
    (broken_hears c.args.moment.end c.args.count (at (g.M.DeferringRouter.state c.args.router.now) c.args.moment.now 0) [] c.args.moment.now c.loop-iface.iface (g.M.DeferringRouter.state c.loop-iface.router)
    (g.A.Air.reports c.args.air.now) (g.A.Air.reports c.loop-iface.air) (g.A.Air.reports c.listen.new.air) c.args.tally.now c.loop-iface.tally
    c.loop-iface.invariant.goes c.loop-iface-test.true c.in_err-listen.ensures.in_vain)

pub loop-iface-preserved : goal.loop-iface-preserved
loop-iface-preserved g c =
    let i = c.loop-iface.invariant in
    let h = c.in_ok-listen.ensures in
    record {
      goes = going_hears c.args.moment.end c.args.count (at (g.M.DeferringRouter.state c.args.router.now) c.args.moment.now 0) [] c.args.moment.now c.loop-iface.iface
          (g.M.DeferringRouter.state c.loop-iface.router) (g.M.DeferringRouter.state c.listen.new.router)
          (g.A.Air.reports c.args.air.now) (g.A.Air.reports c.loop-iface.air) (g.A.Air.reports c.listen.new.air) c.args.tally.now c.loop-iface.tally c.listen.new.tally
          i.goes c.loop-iface-test.true h.hears;
      ready = h.ready;
      attached = cc;
      later = omega (arith, i.later, h.later);
      longest = h.longest;
    }

pub returns-clause-goes : goal.returns-clause-goes
returns-clause-goes g c =
    let e : c.loop-iface.iface ≡ c.args.count = omega (arith, c.loop-iface-test.false, c.loop-iface.auto.iface-end) in
    going_at c.args.moment.end c.args.count (at (g.M.DeferringRouter.state c.args.router.now) c.args.moment.now 0) [] (g.M.DeferringRouter.state c.loop-iface.router) c.args.moment.now c.args.moment.now c.loop-iface.iface c.args.count
    (g.A.Air.reports c.args.air.now) (g.A.Air.reports c.loop-iface.air) c.args.tally.now c.loop-iface.tally refl e c.loop-iface.invariant.goes
