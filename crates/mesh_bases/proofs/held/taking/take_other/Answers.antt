use Rattle.mesh_bases.proofs.Common.{arith, refl, sym, subst, ap, [], List, length, false, append-nil, Times, RouterSettings, Bases, AfterNote, Frame, ConsidersForwarding, forwarding, Other_left}
use Rattle.mesh_bases.proofs.HeldLemmas.Fates.{other_taken, spelled_hop}
use Rattle.mesh_bases.proofs.held.taking.take_other.Goals as goal

pub returns-in-None-clause-taken : goal.returns-in-None-clause-taken
returns-in-None-clause-taken g c = ([], sym (append-nil _), λ topology message reads. Other_left reads.no_hello reads.no_tc (reads.none (rw c.in-None.is refl)))

pub send_on-requires : goal.send_on-requires
send_on-requires g c =
    let (message, spelled, reads) = c.requires.message in
    let (link, selector, answered) = c.judge-verdict.ensures.forward in
    spelled_hop c.args.taken.now.octets.now c.in-Some.heading c.args.taken.now.arrival.iface c.args.taken.now.own link c.args.flood.now.noted c.judge-verdict.result.forward c.requires.octets (message, spelled, rw c.in-Some.is at reads.some) answered

pub returns-in_ok-send_on-in-Some-clause-taken : goal.returns-in_ok-send_on-in-Some-clause-taken
returns-in_ok-send_on-in-Some-clause-taken g c =
    let settings : RouterSettings = c.args.nhdp.now.settings in
    let (link, selector, answered) = c.judge-verdict.ensures.forward in
    let sent : List Frame = forwarding (length c.settings.result.now.interfaces) c.args.taken.now.octets.now c.judge-verdict.result.forward in (
      sent,
      c.in_ok-send_on-in-Some.ensures.sent,
      λ topology message reads.
          let old : Bases = record { neighbourhood = c.args.nhdp.now.near; topology = topology; noted = c.args.flood.now.noted } in
          let considered : ConsidersForwarding settings c.args.taken.now.own c.args.taken.now.arrival c.in-Some.heading c.args.taken.now.octets.now false old c.note.new.self.noted sent c.judge-verdict.result.forward =
          record {
            link = link;
            selector = selector;
            answered = answered;
            notes = subst (λ (t : Times). AfterNote t c.args.taken.now.arrival.now c.args.taken.now.arrival.iface c.in-Some.heading false c.judge-verdict.result.forward c.args.flood.now.noted c.note.new.self.noted) c.requires.times c.in_ok-note-in-Some.ensures.ok;
            sends = ap (λ (r : RouterSettings). forwarding (length r.interfaces) c.args.taken.now.octets.now c.judge-verdict.result.forward) c.settings.ensures;
          } in
          other_taken settings c.args.taken.now.own c.args.taken.now.arrival old message c.args.taken.now.octets.now c.in-Some.heading c.note.new.self.noted sent c.judge-verdict.result.forward
          c.judge-verdict.result.process c.other_read.result reads.no_hello reads.no_tc (rw c.in-Some.is at reads.some) considered c.judge-verdict.ensures.process c.other_read.ensures,
    )
