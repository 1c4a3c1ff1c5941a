use Rattle.mesh_bases.proofs.Common.{subst, ap, List, length, Times, RouterSettings, Bases, AfterNote, Frame, ConsidersForwarding, forwarding}
use Rattle.mesh_bases.proofs.HeldLemmas.Fates.{tc_processed, spelled_hop}
use Rattle.mesh_bases.proofs.held.taking.process_tc.Goals as goal

pub send_on-requires : goal.send_on-requires
send_on-requires g c =
    let (link, selector, answered) = c.judge-verdict.ensures.forward in
    spelled_hop c.args.taken.now.octets.now c.args.heading.now c.args.taken.now.arrival.iface c.args.taken.now.own link c.args.flood.now.noted c.judge-verdict.result.forward c.requires.octets c.requires.message answered

pub returns-clause-taken : goal.returns-clause-taken
returns-clause-taken g c =
    let settings : RouterSettings = c.args.nhdp.now.settings in
    let old : Bases = record { neighbourhood = c.args.nhdp.now.near; topology = c.args.topology.now; noted = c.args.flood.now.noted } in
    let (link, selector, answered) = c.judge-verdict.ensures.forward in
    let sent : List Frame = forwarding (length c.settings.result.now.interfaces) c.args.taken.now.octets.now c.judge-verdict.result.forward in
    let considered : ConsidersForwarding settings c.args.taken.now.own c.args.taken.now.arrival c.args.heading.now c.args.taken.now.octets.now c.in_ok-read.processed old c.note.new.self.noted sent c.judge-verdict.result.forward =
    record {
      link = link;
      selector = selector;
      answered = answered;
      notes = subst (λ (t : Times). AfterNote t c.args.taken.now.arrival.now c.args.taken.now.arrival.iface c.args.heading.now c.in_ok-read.processed c.judge-verdict.result.forward c.args.flood.now.noted c.note.new.self.noted) c.requires.times c.in_ok-note.ensures.ok;
      sends = ap (λ (r : RouterSettings). forwarding (length r.interfaces) c.args.taken.now.octets.now c.judge-verdict.result.forward) c.settings.ensures;
    } in (
      sent,
      c.in_ok-send_on.ensures.sent,
      tc_processed settings c.args.taken.now.own c.args.taken.now.arrival old c.args.tc.now c.args.heading.now c.args.taken.now.octets.now c.read_tc.new.topology c.note.new.self.noted sent c.judge-verdict.result.forward
          c.in_ok-read.read c.in_ok-read.processed c.judge-verdict.result.process c.judge-verdict.ensures.process c.in_ok-read.ensures.reads considered,
    )
