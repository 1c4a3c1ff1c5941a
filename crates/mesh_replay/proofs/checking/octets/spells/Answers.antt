use Rattle.mesh_replay.proofs.Common.{sym, subst, ◌↔◌, IfOk, IsTrue, WritesSent}
use Rattle.mesh_replay.specs.declared.checking.octets.DueMessage.{DueMessage}
use Rattle.mesh_replay.proofs.checking.octets.spells.Goals as goal

pub returns-in-Hello : goal.returns-in-Hello
returns-in-Hello c = subst (λ (m : DueMessage). IfOk c.spells_hello.result (λ yes. IsTrue yes ↔ WritesSent c.args.event.now.settings.now m c.args.octets.now)) (sym c.in-Hello.is) c.spells_hello.ensures

pub returns-in-Tc : goal.returns-in-Tc
returns-in-Tc c = subst (λ (m : DueMessage). IfOk c.spells_tc.result (λ yes. IsTrue yes ↔ WritesSent c.args.event.now.settings.now m c.args.octets.now)) (sym c.in-Tc.is) c.spells_tc.ensures
