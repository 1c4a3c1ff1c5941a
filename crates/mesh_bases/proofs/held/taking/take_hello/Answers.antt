use Rattle.mesh_bases.proofs.HeldLemmas.Fates.{hello_taken}
use Rattle.mesh_bases.proofs.held.taking.take_hello.Goals as goal

pub returns-clause-taken : goal.returns-clause-taken
returns-clause-taken g c = λ topology noted message reads.
    let (answer, is, takes) = c.in_ok-answer.ensures.ok in
    hello_taken c.args.nhdp.now.settings c.args.taken.now.own c.args.taken.now.arrival (record { neighbourhood = c.args.nhdp.now.near; topology = topology; noted = noted }) message c.args.taken.now.octets.now c.take_and_tell.new.self.near c.args.hello.now answer c.hello_read.result
    reads.kind reads.keeps reads.says takes (c.hello_read.ensures answer is)
