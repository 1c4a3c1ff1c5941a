use Rattle.mesh_run.proofs.Common.{◌<◌, ◌∙◌, List, ap, length, map, subst, take, TellsMore, attached_report}
use Rattle.mesh_atoms.specs.declared.settings.Port.{Port}
use Rattle.mesh_run.proofs.Endings.{ends_behind, attach_left}
use Rattle.mesh_run.proofs.router.run_setup.Goals as goal

pub returns-in-Ok-clause-ends : goal.returns-in-Ok-clause-ends
returns-in-Ok-clause-ends g c =
    let before = g.A.Air.reports c.args.air.now in
    let behind = g.A.Air.reports c.attach_all.new.air in
    λ input stated. ends_behind input c.args.setup.now stated c.args.turns (g.C.Clock.moments c.args.clock.now) (g.C.Clock.moments c.start.new.clock)
    before behind (g.A.Air.reports c.start.new.air) (g.A.Air.attached c.start.new.air)
    (subst (λ (ports : List Port). TellsMore before behind (map attached_report ports)) c.as_slice.ensures c.in-Ok.ensures.told)
    (c.start.ensures.attached ∙ c.in-Ok.ensures.all ∙ ap (λ (ports : List Port). length ports) c.as_slice.ensures)
    (g.O.Sink.content c.args.out.now) (g.O.Sink.content c.start.new.out) (g.O.Sink.faults c.args.out.now) (g.O.Sink.faults c.start.new.out)
    (g.A.Air.faults c.args.air.now) (g.A.Air.faults c.start.new.air) c.start.result c.start.ensures.ends

pub returns-in-Err-clause-ends : goal.returns-in-Err-clause-ends
returns-in-Err-clause-ends g c =
    let before = g.A.Air.reports c.args.air.now in
    let behind = g.A.Air.reports c.attach_all.new.air in
    λ input stated. attach_left input c.args.setup.now c.args.turns (g.C.Clock.moments c.args.clock.now) before behind
    (g.O.Sink.content c.args.out.now) (g.A.Air.attached c.attach_all.new.air) (g.O.Sink.faults c.args.out.now) (g.A.Air.faults c.args.air.now) (g.A.Air.faults c.attach_all.new.air)
    c.in-Err.interface stated
    (subst (λ (ports : List Port). c.in-Err.interface < length ports) c.as_slice.ensures c.in-Err.ensures.fewer)
    c.in-Err.ensures.number
    (subst (λ (ports : List Port). TellsMore before behind (map attached_report (take c.in-Err.interface ports))) c.as_slice.ensures c.in-Err.ensures.told_before)
    c.in-Err.ensures.one_fault
