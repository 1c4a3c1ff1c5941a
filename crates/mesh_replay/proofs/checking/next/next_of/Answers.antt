use Rattle.mesh_replay.proofs.Common.{arith, common_steps, ◌≤◌, min, delivery_of}
use Rattle.mesh_replay.proofs.SceneLemmas.Ticks.{found_next, hearing_next, taken_arc, taken_progress}
use Rattle.mesh_replay.proofs.checking.next.next_of.Goals as goal

pub hearing_of-requires : goal.hearing_of-requires
hearing_of-requires c =
    let (routers, sound) = c.requires.sound in
    taken_arc c.args.case.now routers c.args.due c.args.last_ticks c.args.progress.now sound (delivery_of c.in-Some.landed) c.take.new.self.traffic c.in-Some.ensures.first

pub returns-in-Some-clause-next : goal.returns-in-Some-clause-next
returns-in-Some-clause-next c routers sound =
    let soon : c.in-Some.landed.moment ≤ min c.args.due.moment c.args.case.now.scenario.now.end = rw (← c.min-limit.ensures) c.in-Some.ensures.limit in
    hearing_next c.args.case.now routers c.args.due c.args.last_ticks c.args.progress.now sound c.in-Some.ensures.first soon c.hearing_of.ensures

pub returns-in-Some-clause-progress : goal.returns-in-Some-clause-progress
returns-in-Some-clause-progress c =
    let (routers, sound) = c.requires.sound in
    taken_progress c.args.case.now routers c.args.due c.args.last_ticks c.args.progress.now sound (delivery_of c.in-Some.landed) c.take.new.self c.in-Some.ensures.first c.in-Some.ensures.seed

pub returns-in-None-clause-next : goal.returns-in-None-clause-next
returns-in-None-clause-next c = grind (arith, common_steps, found_next, c.min-limit.ensures, c.in-None.ensures.limit, c.in-None.ensures.first, c.next_tick.ensures)
