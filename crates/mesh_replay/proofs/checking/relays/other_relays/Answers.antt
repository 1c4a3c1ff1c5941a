use Rattle.mesh_replay.proofs.Common.{arith, common_steps, subst, ◌↔◌, IsTrue, MayTell}
use Rattle.mesh_replay.proofs.CheckingLemmas.Texts.{takes_none, takes_not}
use Rattle.mesh_replay.proofs.RelaysLemmas.Chosen.{all_wide, are_wide}
use Rattle.mesh_replay.proofs.checking.relays.other_relays.Goals as goal

pub returns-in_default : goal.returns-in_default
returns-in_default g c =
    takes_none (λ relays may. all_wide relays (are_wide (g.R.RouterOfTrace.state c.args.router.now) c.args.iface relays c.requires.addresses may)) c.in_ok-relays.ensures c.in_default.is

pub returns-then-not-branch : goal.returns-then-not-branch
returns-then-not-branch g c =
    takes_not (λ relays may. all_wide relays (are_wide (g.R.RouterOfTrace.state c.args.router.now) c.args.iface relays c.requires.addresses may)) c.in_ok-relays.ensures c.in-Some.relays c.in-Some.is
    (subst (λ l. IsTrue c.in_ok-may_be.field-0 ↔ MayTell (g.R.RouterOfTrace.state c.args.router.now) c.args.iface l) c.as_slice.ensures c.in_ok-may_be.ensures) c.if-not-branch.true

pub returns : goal.returns
returns g c = grind (arith, common_steps, are_wide, c.requires.addresses, c.in_ok-relays.ensures, c.in-Some.is, c.as_slice.ensures, c.in_ok-may_be.ensures.0, c.take.ensures.took.0)
