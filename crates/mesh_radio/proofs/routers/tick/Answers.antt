use Rattle.mesh_radio.proofs.Common.{◌≤◌, subst, State}
use Rattle.mesh_machine.specs.Machine.{Tick}
use Rattle.mesh_radio.proofs.Steps.{its_state, ticks}
use Rattle.mesh_radio.proofs.routers.tick.Goals as goal

pub tick_until-requires-clause-now : goal.tick_until-requires-clause-now
tick_until-requires-clause-now g c = c.requires.early

pub tick_until-requires-clause-later : goal.tick_until-requires-clause-later
tick_until-requires-clause-later g c =
    let (was, at, late) = c.requires.stands in
    subst (λ (q : State). q.last ≤ c.args.now) (its_state g.R.DeferringRouter.state c.args.routers.now.items c.args.router was at c.index_mut-ticking.result.now c.index_mut-ticking.ensures.value) late

pub returns : goal.returns
returns g c =
    let (was, at, late) = c.requires.stands in
    let ticked = c.tick_until.ensures in
    let state = g.R.DeferringRouter.state in
    let routers = c.args.routers.now.items in
    let here = c.index_mut-ticking in
    ticks state routers c.args.router was at c.tick_until.result c.args.until c.args.now (Tick c.args.now) c.tick_until.new.out here.result.now c.tick_until.new.self
    here.ensures.value (subst (λ (q : State). q.last ≤ c.args.now) (its_state state routers c.args.router was at here.result.now here.ensures.value) late) ticked.step ticked.sendable ticked.settings ticked.last ticked.due
