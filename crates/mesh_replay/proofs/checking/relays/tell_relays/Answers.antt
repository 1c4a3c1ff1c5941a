use Rattle.mesh_replay.proofs.Common.{refl, subst, TellsFlooding}
use Rattle.mesh_replay.proofs.RelaysLemmas.Telling.{stops_routing, told_all}
use Rattle.mesh_replay.proofs.checking.relays.tell_relays.Goals as goal

pub returns-in-Some-routing : goal.returns-in-Some-routing
returns-in-Some-routing g c =
    let had = subst (TellsFlooding c.args.case.now c.args.progress.now c.tell_flooding.new.progress c.args.event.now (g.R.RouterOfTrace.state c.args.router.now)) c.in-Some.is c.in_ok-flooding.ensures in
    told_all c.requires.begun.is_in had refl c.in_ok-routing.ensures c.in-Some-routing.is

pub returns-in-None : goal.returns-in-None
returns-in-None g c =
    let had = subst (TellsFlooding c.args.case.now c.args.progress.now c.tell_flooding.new.progress c.args.event.now (g.R.RouterOfTrace.state c.args.router.now)) c.in-Some.is c.in_ok-flooding.ensures in
    stops_routing c.requires.begun.is_in had refl c.in_ok-routing.ensures c.in-None.is
