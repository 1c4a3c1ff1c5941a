use Rattle.mesh_bases.proofs.Common.{sym, [], append-nil, Bases, Tc_read, if_ok_weaker as if_ok}
use Rattle.mesh_bases.proofs.HeldLemmas.Fates.{breaks, hosts_of}
use Rattle.mesh_bases.proofs.held.holding.InformationBases.take_message.Goals as goal

pub process_tc-requires-clause-hosts : goal.process_tc-requires-clause-hosts
process_tc-requires-clause-hosts g c = let (message, spelled, reads) = c.requires.message in let is = rw c.in-Tc.is at reads in hosts_of message _ is.keeps is.says

pub returns-in-Hello-clause-taken : goal.returns-in-Hello-clause-taken
returns-in-Hello-clause-taken g c =
    rw (← c.self.view_is) (if_ok c.take_hello.result (λ made h. ([], sym (append-nil _), λ message reads. h c.self.inside.topology c.self.inside.flood.noted message (rw c.in-Hello.is at reads))) c.take_hello.ensures.taken)

pub returns-in-Tc-clause-taken : goal.returns-in-Tc-clause-taken
returns-in-Tc-clause-taken g c =
    let after : Bases = record { neighbourhood = c.self.inside.nhdp.near; topology = c.process_tc.new.topology; noted = c.process_tc.new.flood.noted } in
    rw (← c.self.view_is) (if_ok c.process_tc.result
    (λ made (sent, out, processes). (sent, out, λ message reads. let is = rw c.in-Tc.is at reads in Tc_read {new = after} c.in-Tc.tc c.in-Tc.heading is.kind is.keeps is.says is.heading_is processes))
    c.process_tc.ensures.taken)

pub returns-in-Broken-clause-taken : goal.returns-in-Broken-clause-taken
returns-in-Broken-clause-taken g c =
    rw c.broken.ensures ([], sym (append-nil _), λ message reads. breaks c.args.self.now.settings c.args.taken.now.own c.args.taken.now.arrival c.args.self.now.bases message c.args.taken.now.octets.now (rw c.in-Broken.is at reads))

pub returns-in-Other-clause-taken : goal.returns-in-Other-clause-taken
returns-in-Other-clause-taken g c =
    rw (← c.self.view_is) (if_ok c.take_other.result (λ made (sent, out, takes). (sent, out, λ message reads. takes c.self.inside.topology message (rw c.in-Other.is at reads))) c.take_other.ensures.taken)
