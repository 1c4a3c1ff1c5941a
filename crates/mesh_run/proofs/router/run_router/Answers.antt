use Rattle.mesh_run.proofs.Common.{sym, subst, Sound, State, IsKeptOf, keeps_same}
use Rattle.mesh_run.proofs.Endings.{sound_left, report_left, report_stops, spends}
use Rattle.mesh_run.proofs.router.run_router.Goals as goal

pub returns-then-ended-setup-clause-ends : goal.returns-then-ended-setup-clause-ends
returns-then-ended-setup-clause-ends g c = (
  c.in-Ok.ensures.spent c.if-ended-setup.true,
  spends c.args.setup.now c.args.turns c.in-Ok.ensures.done.0 c.in-Ok.ended (g.C.Clock.moments c.args.clock.now) (g.C.Clock.moments c.do_turns.new.clock)
      (g.A.Air.reports c.args.air.now) (g.A.Air.reports c.do_turns.new.air) c.in-Ok.ensures.done.1 c.if-ended-setup.true,
  keeps_same (g.O.Sink.content c.args.out.now),
)

pub into_whole-whole-requires : goal.into_whole-whole-requires
into_whole-whole-requires g c =
    sound_left c.args.setup.now c.args.turns c.in-Ok.ensures.done.0 c.in-Ok.ended (g.C.Clock.moments c.args.clock.now) (g.C.Clock.moments c.do_turns.new.clock)
    (g.A.Air.reports c.args.air.now) (g.A.Air.reports c.do_turns.new.air) c.in-Ok.ensures.done.1 c.if-ended-setup.false
    (g.M.DeferringRouter.state c.do_turns.new.router) c.in-Ok.ensures.done.2

pub tell_report-requires : goal.tell_report-requires
tell_report-requires g c = subst Sound (sym c.into_whole-whole.ensures)
    (sound_left c.args.setup.now c.args.turns c.in-Ok.ensures.done.0 c.in-Ok.ended (g.C.Clock.moments c.args.clock.now) (g.C.Clock.moments c.do_turns.new.clock)
    (g.A.Air.reports c.args.air.now) (g.A.Air.reports c.do_turns.new.air) c.in-Ok.ensures.done.1 c.if-ended-setup.false
    (g.M.DeferringRouter.state c.do_turns.new.router) c.in-Ok.ensures.done.2)

pub returns-in-Ok-tell_report-clause-ends : goal.returns-in-Ok-tell_report-clause-ends
returns-in-Ok-tell_report-clause-ends g c =
    report_left c.args.setup.now c.args.turns c.in-Ok.ensures.done.0 c.in-Ok.ended (g.C.Clock.moments c.args.clock.now) (g.C.Clock.moments c.do_turns.new.clock)
    (g.A.Air.reports c.args.air.now) (g.A.Air.reports c.do_turns.new.air) c.in-Ok.ensures.done.1 c.in-Ok.ensures.most c.if-ended-setup.false
    (g.M.Whole.RouterView.state c.into_whole-whole.result) (subst (λ (s : State). IsKeptOf c.args.setup.now.end c.in-Ok.ensures.done.0 s) (sym c.into_whole-whole.ensures) c.in-Ok.ensures.done.2)
    (g.O.Sink.content c.args.out.now) (g.O.Sink.content c.tell_report.new.out) (g.O.Sink.faults c.args.out.now) (g.O.Sink.faults c.tell_report.new.out) c.in-Ok-tell_report.ensures.leaves

pub returns-clause-ends : goal.returns-clause-ends
returns-clause-ends g c =
    report_stops c.args.setup.now c.args.turns c.in-Ok.ensures.done.0 c.in-Ok.ended (g.C.Clock.moments c.args.clock.now) (g.C.Clock.moments c.do_turns.new.clock)
    (g.A.Air.reports c.args.air.now) (g.A.Air.reports c.do_turns.new.air) c.in-Ok.ensures.done.1 c.in-Ok.ensures.most c.if-ended-setup.false
    (g.M.Whole.RouterView.state c.into_whole-whole.result) (subst (λ (s : State). IsKeptOf c.args.setup.now.end c.in-Ok.ensures.done.0 s) (sym c.into_whole-whole.ensures) c.in-Ok.ensures.done.2)
    (g.O.Sink.content c.args.out.now) (g.O.Sink.content c.tell_report.new.out) (g.O.Sink.faults c.args.out.now) (g.O.Sink.faults c.tell_report.new.out) c.in-Err-tell_report.stop c.in-Err-tell_report.ensures.leaves
