use Rattle.mesh_nhdp.proofs.Common.{subst, Some, None, Option, told_of, IsFilledBy}
use Rattle.mesh_atoms.specs.declared.tuples.Base.{Base}
use Rattle.mesh_hello.proofs.ToldLemmas.Local.{fault_at}
use Rattle.mesh_nhdp.proofs.Judges.{judged_full}
use Rattle.mesh_nhdp.proofs.judge.judge.Goals as goal

pub returns-in-Some : goal.returns-in-Some
returns-in-Some g c =
    let arrival = c.args.arrival.now in
    fault_at c.args.settings.now arrival.own.now arrival.sender arrival.hello.now c.requires.own (Some c.in-Some.number) c.in-Some.ensures

pub returns-in-Some-2 : goal.returns-in-Some-2
returns-in-Some-2 g c =
    let arrival = c.args.arrival.now in
    let fault = fault_at c.args.settings.now arrival.own.now arrival.sender arrival.hello.now c.requires.own None c.in-None.ensures in
    judged_full c.args.settings.now arrival.iface arrival.sender arrival.hello.now c.args.sets.now (told_of c.in_ok-telling.telling) c.in-Some-2.base fault c.in_ok-telling.ensures
    (subst (λ (o : Option Base). IsFilledBy c.args.settings.now arrival.iface arrival.hello.now c.args.sets.now (told_of c.in_ok-telling.telling) o) c.in-Some-2.is (c.in_ok-base.ensures c.args.settings.now c.requires.own))

pub returns-in-None-2 : goal.returns-in-None-2
returns-in-None-2 g c =
    let arrival = c.args.arrival.now in
    let fault = fault_at c.args.settings.now arrival.own.now arrival.sender arrival.hello.now c.requires.own None c.in-None.ensures in
    let room = subst (λ (o : Option Base). IsFilledBy c.args.settings.now arrival.iface arrival.hello.now c.args.sets.now (told_of c.in_ok-telling.telling) o) c.in-None-2.is
    (c.in_ok-base.ensures c.args.settings.now c.requires.own) in
    (fault, c.in_ok-telling.ensures, room.0, room.1)
