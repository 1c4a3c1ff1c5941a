use Rattle.mesh_trace.proofs.Common.{◌≡◌, rules, List, map, false, sym, subst, ◌∙◌, Contains, IsTrue, ◌↔◌, false≢true, Tc, MessageFields, fields_of_message, Tlv, TlvFields, fields, TcIs, IsReadOfTc, one_tc}
use Rattle.mesh_trace.proofs.SpellingLemmas.Tcs.{tc_width, parts_read, parts_looked}
use Rattle.mesh_trace.proofs.spelling.tc.is_message_of_tc.Goals as goal

pub returns-then-not-is_same_tc : goal.returns-then-not-is_same_tc
returns-then-not-is_same_tc c =
    let m : MessageFields = fields_of_message c.args.message.now in
    let no : c.is_same_tc.result ≡ false = search rules in
    (λ yes. absurd (false≢true yes), λ says. absurd (false≢true (sym no ∙ c.is_same_tc.ensures.1 (one_tc m c.requires.keeps c.args.read.now c.args.tc.now c.requires.reads says.reads))))

pub returns-then-not-are_tlvs_read : goal.returns-then-not-are_tlvs_read
returns-then-not-are_tlvs_read c =
    let no : c.are_tlvs_read.result ≡ false = search rules in
    let iff : IsTrue c.are_tlvs_read.result ↔ ((tlv : TlvFields) → Contains (map fields c.args.message.now.tlvs) tlv → IsReadOfTc tlv) =
    subst (λ (tlvs : List Tlv). IsTrue c.are_tlvs_read.result ↔ ((tlv : TlvFields) → Contains (map fields tlvs) tlv → IsReadOfTc tlv)) c.as_slice.ensures c.are_tlvs_read.ensures in
    (λ yes. absurd (false≢true yes), λ says. absurd (false≢true (sym no ∙ iff.1 says.tlvs)))

pub is_all_read-requires-clause-width : goal.is_all_read-requires-clause-width
is_all_read-requires-clause-width c = tc_width (fields_of_message c.args.message.now) c.requires.keeps

pub returns : goal.returns
returns c =
    let m : MessageFields = fields_of_message c.args.message.now in
    let same : c.args.read.now ≡ c.args.tc.now = c.is_same_tc.ensures.0 (search rules) in
    let iff : IsTrue c.are_tlvs_read.result ↔ ((tlv : TlvFields) → Contains (map fields c.args.message.now.tlvs) tlv → IsReadOfTc tlv) =
    subst (λ (tlvs : List Tlv). IsTrue c.are_tlvs_read.result ↔ ((tlv : TlvFields) → Contains (map fields tlvs) tlv → IsReadOfTc tlv)) c.as_slice.ensures c.are_tlvs_read.ensures in (
      λ yes. record {
        header = c.has_header.ensures.0 (search rules);
        reads = subst (λ (t : Tc). TcIs m t) same c.requires.reads;
        validity_is = c.has_validity.ensures.0 (search rules);
        keeps = c.requires.keeps;
        tlvs = iff.0 (search rules);
        parts = parts_read m (c.is_all_read.ensures.0 yes);
      },
      λ says. c.is_all_read.ensures.1 (parts_looked m says.parts),
    )
