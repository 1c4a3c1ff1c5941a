use Rattle.mesh_replay.proofs.Common.{refl, if_ok_weaker}
use Rattle.mesh_replay.proofs.CheckingLemmas.Opened.{begun_by}
use Rattle.mesh_replay.proofs.checking.step.tick_router.Goals as goal

pub tell_event-requires-clause-begun : goal.tell_event-requires-clause-begun
tell_event-requires-clause-begun g c = begun_by c.requires.begins c.in_ok-lines.ensures.begins refl (c.requires.begins.addresses _ _ c.in_ok-lines.ensures.ticks)

pub returns : goal.returns
returns g c = if_ok_weaker c.tell_event.result (λ fits tells. record { is = g.R.RouterOfTrace.state c.tick.new.self; left = _; by = c.in_ok-lines.ensures.ticks; tells = tells }) c.tell_event.ensures
