use Rattle.mesh_bases.proofs.Common.{arith, common_steps, subst, RouterSettings, IsOriginator, Spells, AreReadAs, TakesMessages, packet_spelled}
use Rattle.mesh_bases.proofs.HeldLemmas.Quiet.{advertised_after, both_true}
use Rattle.mesh_bases.proofs.HeldLemmas.Taken.{live_held, taken_held}
use Rattle.mesh_bases.proofs.held.holding.InformationBases.take_frame.Goals as goal

pub take_typed-requires-clause-sound : goal.take_typed-requires-clause-sound
take_typed-requires-clause-sound g c = live_held c.args.self.now c.expire.new.self c.args.last c.args.arrival.now c.requires.sound c.in_ok-idle.ensures.live c.in_ok-idle.ensures.settings

pub take_typed-requires-clause-messages : goal.take_typed-requires-clause-messages
take_typed-requires-clause-messages g c =
    let (packet, spells, reads) = c.requires.packet in
    let spelled : Spells packet c.as_slice-spans.result.now c.args.bytes.now = rw c.as_slice-spans.ensures spells in
    let read : AreReadAs packet.messages c.as_slice-typed.result.now = rw c.as_slice-typed.ensures reads in
    (packet.messages, packet_spelled c.args.bytes.now packet c.as_slice-spans.result.now spelled, read)

pub returns-clause-taken : goal.returns-clause-taken
returns-clause-taken g c =
    let (packet, spells, reads) = c.requires.packet in
    let spelled : Spells packet c.as_slice-spans.result.now c.args.bytes.now = rw c.as_slice-spans.ensures spells in
    let read : AreReadAs packet.messages c.as_slice-typed.result.now = rw c.as_slice-typed.ensures reads in
    let (own, given, sent, is_own, fates, out, takes) = c.in_ok-fates.ensures.taken in (
      given,
      sent,
      fates,
      out,
      record {
        packet = packet;
        spans = c.as_slice-spans.result.now;
        spelled = spelled;
        own = own;
        is_own = subst (λ (r : RouterSettings). IsOriginator r own) c.in_ok-idle.ensures.settings is_own;
        live = c.expire.new.self.bases;
        is_live = c.in_ok-idle.ensures.live;
        takes = subst (λ (r : RouterSettings). TakesMessages r own c.args.arrival c.args.bytes.now c.expire.new.self.bases packet.messages c.as_slice-spans.result.now c.take_typed.new.self.bases sent given) c.in_ok-idle.ensures.settings
            (takes packet.messages (packet_spelled c.args.bytes.now packet c.as_slice-spans.result.now spelled) read);
      },
    )

pub returns-clause-sound : goal.returns-clause-sound
returns-clause-sound g c =
    let (packet, spells, reads) = c.requires.packet in
    let spelled : Spells packet c.as_slice-spans.result.now c.args.bytes.now = rw c.as_slice-spans.ensures spells in
    let read : AreReadAs packet.messages c.as_slice-typed.result.now = rw c.as_slice-typed.ensures reads in
    let (own, given, sent, is_own, fates, out, takes) = c.in_ok-fates.ensures.taken in
    taken_held c.args.self.now c.expire.new.self c.take_typed.new.self c.args.last own c.args.arrival c.args.bytes.now packet.messages c.as_slice-spans.result.now sent given
    c.requires.sound c.in_ok-idle.ensures.live c.in_ok-idle.ensures.settings (subst (λ (r : RouterSettings). IsOriginator r own) c.in_ok-idle.ensures.settings is_own) c.take_typed.ensures.settings
    (takes packet.messages (packet_spelled c.args.bytes.now packet c.as_slice-spans.result.now spelled) read)

pub returns-clause-advertised : goal.returns-clause-advertised
returns-clause-advertised g c = grind (arith, common_steps, both_true, advertised_after, c.and.ensures.advertised, c.in_ok-idle.ensures.advertised, c.in_ok-fates.ensures.advertised)
