use Rattle.mesh_bases.proofs.Common.{common_steps, ◌<◌, ℕ, IsTrue, sym, subst, refl, [], ◌∷◌, ◌++◌, List, length, take, arith, ap, ◌∙◌, append-nil, append_assoc, take_all, slice_get-get_or, RouterSettings, IsOriginator, item_at, Span, MessageFields, Fate, Frame, SoundBases, TakesMessage, TakesMessages, No_messages, messages_sound, kept_fates}
use Rattle.mesh_bases.proofs.HeldLemmas.Fates.{kept_more, none_kept}
use Rattle.mesh_bases.proofs.HeldLemmas.Quiet.{advertised_after, advertised_equal, both_true, near_after, near_equal}
use Rattle.mesh_bases.proofs.ReadingLemmas.Messages.{read_at, read_count, takes_more}
use Rattle.mesh_bases.proofs.held.holding.InformationBases.take_typed.Goals as goal
use Rattle.mesh_atoms.proofs.Lists.{item_at as there_is}

pub loop-i-init : goal.loop-i-init
loop-i-init g c = record { taken = ([], [], c.new-fates.ensures ∙ none_kept c.args.keeps_fates, sym (append-nil _), λ messages spelled reads. No_messages); settings = refl; near = λ quiet. near_equal _ _ c.args.arrival.now refl; advertised = λ quiet. advertised_equal _ _ refl }

pub bounds-spans-i : goal.bounds-spans-i
bounds-spans-i g c = grind (arith, common_steps, read_count, c.requires.messages)

pub octets_of-octets-requires : goal.octets_of-octets-requires
octets_of-octets-requires g c =
    let (messages, spelled, reads) = c.requires.messages in
    let within : c.loop-i.i < length c.args.spans.now =
    let h = spelled.count in let k = read_count messages c.args.typed.now reads in let l = c.loop-i-test.true in omega (arith, h, k, l) in
    let (m, at) = there_is messages c.loop-i.i (let h = spelled.count in omega (arith, h, within)) in
    (spelled.each c.loop-i.i m _ at (slice_get-get_or c.args.spans.now c.loop-i.i (record { start = 0; len = 0 }) within)).0

pub take_message-requires-clause-sound : goal.take_message-requires-clause-sound
take_message-requires-clause-sound g c =
    let (messages, spelled, reads) = c.requires.messages in
    let (given, sent, fates, out, takes) = c.loop-i.invariant.taken in
    subst (λ (r : RouterSettings). SoundBases r c.args.arrival.now c.loop-i.self.bases) (sym c.loop-i.invariant.settings)
    (messages_sound c.args.self.now.settings c.originator-own.result c.args.arrival c.args.bytes.now c.args.self.now.bases _ _ c.loop-i.self.bases sent given (subst (λ (r : RouterSettings). IsOriginator r c.originator-own.result) c.settings.ensures c.originator-own.ensures.is) c.requires.sound (takes messages spelled reads))

pub take_message-requires-clause-message : goal.take_message-requires-clause-message
take_message-requires-clause-message g c =
    let (messages, spelled, reads) = c.requires.messages in
    let within : c.loop-i.i < length c.args.spans.now =
    let h = spelled.count in let k = read_count messages c.args.typed.now reads in let l = c.loop-i-test.true in omega (arith, h, k, l) in
    let (m, at, is) = read_at messages c.args.typed.now c.loop-i.i c.index-typed-i.result reads (item_at c.args.typed.now c.loop-i.i c.index-typed-i.result c.loop-i-test.true c.index-typed-i.is) in
    (m, rw c.octets_of-octets.ensures ((spelled.each c.loop-i.i m _ at (slice_get-get_or c.args.spans.now c.loop-i.i (record { start = 0; len = 0 }) within)).1), is)

pub loop-i-preserved : goal.loop-i-preserved
loop-i-preserved g c =
    let d : Span = record { start = 0; len = 0 } in
    let (given, sent, fates, out, takes) = c.loop-i.invariant.taken in
    let (more, out_more, one) = c.in_ok-fate.ensures.taken in
    record {
      taken = (
        given ++ c.in_ok-fate.fate ∷ [],
        sent ++ more,
        let here : List Fate = kept_fates c.args.keeps_fates (c.in_ok-fate.fate ∷ []) in
            c.in_ok-keep_fate.ensures ∙ (ap (λ (f : List Fate). f ++ here) fates ∙ kept_more c.args.keeps_fates given (c.in_ok-fate.fate ∷ [])),
        out_more ∙ (ap (λ (f : List Frame). f ++ more) out ∙ append_assoc c.args.out.now sent more),
        λ messages spelled reads.
            let within : c.loop-i.i < length c.args.spans.now =
            let h = spelled.count in let k = read_count messages c.args.typed.now reads in let l = c.loop-i-test.true in omega (arith, h, k, l) in
            let (m, at, is) = read_at messages c.args.typed.now c.loop-i.i c.index-typed-i.result reads (item_at c.args.typed.now c.loop-i.i c.index-typed-i.result c.loop-i-test.true c.index-typed-i.is) in
            let of_settings : TakesMessage c.args.self.now.settings c.originator-own.result c.args.arrival c.loop-i.self.bases m c.octets_of-octets.result.now c.take_message.new.self.bases more c.in_ok-fate.fate =
            subst (λ (r : RouterSettings). TakesMessage r c.originator-own.result c.args.arrival c.loop-i.self.bases m c.octets_of-octets.result.now c.take_message.new.self.bases more c.in_ok-fate.fate)
            c.loop-i.invariant.settings (one m is) in
            let there = subst (λ (o : List ℕ). TakesMessage c.args.self.now.settings c.originator-own.result c.args.arrival c.loop-i.self.bases m o c.take_message.new.self.bases more c.in_ok-fate.fate)
            c.octets_of-octets.ensures of_settings in
            takes_more c.args.self.now.settings c.originator-own.result c.args.arrival c.args.bytes.now messages c.args.spans.now c.loop-i.i m d c.args.self.now.bases c.loop-i.self.bases c.take_message.new.self.bases
            sent more given c.in_ok-fate.fate at within (takes messages spelled reads) there,
      );
      settings = c.take_message.ensures.settings ∙ c.loop-i.invariant.settings;
      near = λ quiet.
          let (before, here) = both_true c.loop-i.quiet.near c.in_ok-fate.same.near (subst IsTrue c.and-quiet.ensures.near quiet) in
          near_after c.args.self.now.bases.neighbourhood c.args.arrival.now c.loop-i.self.bases.neighbourhood c.args.arrival.now c.take_message.new.self.bases.neighbourhood c.args.arrival.now (c.loop-i.invariant.near before) (c.in_ok-fate.ensures.near here);
      advertised = λ quiet.
          let (before, here) = both_true c.loop-i.quiet.advertised c.in_ok-fate.same.advertised (subst IsTrue c.and-quiet.ensures.advertised quiet) in
          advertised_after c.args.self.now.bases.topology c.loop-i.self.bases.topology c.take_message.new.self.bases.topology (c.loop-i.invariant.advertised before) (c.in_ok-fate.ensures.advertised here);
    }

pub returns-clause-taken : goal.returns-clause-taken
returns-clause-taken g c =
    let (given, sent, fates, out, takes) = c.loop-i.invariant.taken in
    let old = c.args.self.now in
    let end = c.loop-i-test.false in (
      c.originator-own.result,
      given,
      sent,
      subst (λ (r : RouterSettings). IsOriginator r c.originator-own.result) c.settings.ensures c.originator-own.ensures.is,
      fates,
      out,
      λ messages spelled reads.
          let count = spelled.count in
          let fields = read_count messages c.args.typed.now reads in
          let of_all = subst (λ (m : List MessageFields). TakesMessages old.settings c.originator-own.result c.args.arrival c.args.bytes.now old.bases m (take c.loop-i.i c.args.spans.now) c.loop-i.self.bases sent given) (take_all c.loop-i.i messages (omega (arith, fields, end))) (takes messages spelled reads) in
          subst (λ (s : List Span). TakesMessages old.settings c.originator-own.result c.args.arrival c.args.bytes.now old.bases messages s c.loop-i.self.bases sent given) (take_all c.loop-i.i c.args.spans.now (omega (arith, count, fields, end))) of_all,
    )
