use Rattle.mesh_replay.proofs.Common.{arith, common_steps, subst, if_ok_weaker, TellsRelays}
use Rattle.mesh_replay.proofs.CheckingLemmas.Opened.{event_not, event_told, sound_again}
use Rattle.mesh_replay.proofs.checking.events.tell_event.Goals as goal

pub returns-in_default : goal.returns-in_default
returns-in_default g c = grind (arith, common_steps, event_not, c.requires.begun.is_in, c.in_default.is, c.in_ok-relays.ensures)

pub tell_sent-requires-clause-sound : goal.tell_sent-requires-clause-sound
tell_sent-requires-clause-sound g c = sound_again c.requires.begun.sound c.take_relays.ensures

pub returns : goal.returns
returns g c =
    let had = subst (TellsRelays c.args.case.now c.args.progress.now c.tell_relays.new.progress c.args.event.now (g.R.RouterOfTrace.state c.args.router.now)) c.in-Some.is c.in_ok-relays.ensures in
    if_ok_weaker c.tell_sent.result
    (λ fits tells. event_told c.args.lines.now c.requires.begun.is_in c.requires.begun.sound had c.take_relays.ensures tells) c.tell_sent.ensures
