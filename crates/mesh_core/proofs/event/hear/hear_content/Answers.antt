use Rattle.mesh_core.proofs.Common.{List, arith, refl, ap, ◌∙◌, State, Fate, HearsPacket, router_state, KeepsWanted}
use Rattle.mesh_machine.specs.declared.fate.Heard.TheVariants as heard
use Rattle.mesh_core.proofs.EventLemmas.Derivations.{before_event, has_own}
use Rattle.mesh_core.proofs.EventLemmas.Hearing.{packet_to, refused_to}
use Rattle.mesh_core.proofs.EventLemmas.Refusals.{refused_at}
use Rattle.mesh_core.proofs.EventLemmas.Wholes.{bases_but}
use Rattle.mesh_core.proofs.event.hear.hear_content.Goals as goal

pub returns-in-Refused-clause-hears : goal.returns-in-Refused-clause-hears
returns-in-Refused-clause-hears g c = record {
  answer = heard.Refused c.in-Refused.refusal;
  kept_is = refl;
  hears = refused_to c.args.wants (router_state c.args.router.now.holding c.args.router.now.derived) c.args.arrival c.args.bytes.now c.args.out.now c.args.router.now.outdated c.requires.ready.sound c.requires.ready.later
      (λ i. omega (arith, c.type_inv.bytes i)) c.requires.ready.current c.in-Refused.refusal (rw c.in-Refused.is at c.requires.content);
}

pub returns-in-Refused-clause-refused : goal.returns-in-Refused-clause-refused
returns-in-Refused-clause-refused g c = λ place reason fault.
    refused_at c.args.bytes.now c.in-Refused.refusal place reason c.one_reading.ensures.fault (rw c.in-Refused.is at c.requires.content) fault

pub take_frame-requires-clause-packet : goal.take_frame-requires-clause-packet
take_frame-requires-clause-packet g c = rw c.in-Packet.is at c.requires.content

pub take_frame-requires-clause-sound : goal.take_frame-requires-clause-sound
take_frame-requires-clause-sound g c = bases_but (router_state c.args.router.now.holding c.args.router.now.derived) c.requires.ready.sound

pub end_event-requires-clause-near : goal.end_event-requires-clause-near
end_event-requires-clause-near g c = c.in_ok-fates.ensures.sound.neighbourhood

pub end_event-requires-clause-topology : goal.end_event-requires-clause-topology
end_event-requires-clause-topology g c = c.in_ok-fates.ensures.sound.topology

pub returns-clause-hears : goal.returns-clause-hears
returns-clause-hears g c =
    let before : State = router_state c.args.router.now.holding c.args.router.now.derived in
    let after : State = router_state c.take_frame.new.self c.end_event.new.derived in
    let (given, sent, fates, out, taken) = c.in_ok-fates.ensures.taken in
    let begins = before_event c.args.router.now.holding c.take_frame.new.self c.args.router.now.derived c.args.router.now.outdated c.in_ok-fates.quiet c.args.arrival.now c.requires.ready.sound c.requires.ready.current
    c.in_ok-fates.ensures.settings c.in_ok-fates.ensures.near c.in_ok-fates.ensures.advertised in
    let ends = c.in_ok-end_event.ensures.ends before after begins refl refl (has_own c.take_frame.new.self c.end_event.new.derived) in
    let leaves : KeepsWanted (HearsPacket before c.args.arrival c.args.bytes.now given sent) c.args.wants c.end_event.new.outdated after =
    record {
      whole = ends.whole;
      leads = record {
        packet = taken.packet;
        spans = taken.spans;
        spelled = taken.spelled;
        own = taken.own;
        is_own = taken.is_own;
        live = taken.live;
        is_live = taken.is_live;
        bases = c.take_frame.new.self.bases;
        takes = taken.takes;
        renews = ends.leads;
        sequence = ap (λ (s : State). s.sequence) ends.rest.same ∙ c.end_event.ensures.sequence;
        next_hello = ap (λ (s : State). s.next_hello) ends.rest.same ∙ c.end_event.ensures.next_hello;
        next_tc = ap (λ (s : State). s.next_tc) ends.rest.same ∙ c.end_event.ensures.next_tc;
      };
      rest = ends.rest;
      current = ends.current;
    } in
    record {
      answer = heard.Taken given;
      kept_is = ap (λ (f : List Fate). heard.Taken f) fates;
      hears = packet_to c.args.wants before c.args.arrival c.args.bytes.now c.args.out.now c.take_frame.new.out c.end_event.new.outdated after c.requires.ready.sound c.requires.ready.later (λ i. omega (arith, c.type_inv.bytes i)) given sent
          out leaves;
    }

pub returns-clause-refused : goal.returns-clause-refused
returns-clause-refused g c = λ place reason fault.
    let (packet, spells, reads) = rw c.in-Packet.is at c.requires.content in
    absurd (c.one_reading.ensures.apart c.args.bytes.now packet _ place reason spells fault)
