use Rattle.mesh_trace.proofs.Common.{◌≡◌, rules, List, map, false, sym, subst, ◌∙◌, Contains, IsTrue, ◌↔◌, false≢true, Hello, MessageFields, fields_of_message, Tlv, TlvFields, fields, HelloIs, IsReadOfHello, one_hello}
use Rattle.mesh_trace.proofs.SpellingLemmas.Hellos.{hello_width, parts_by_rows, rows_by_parts}
use Rattle.mesh_trace.proofs.spelling.hello.is_message_of_hello.Goals as goal

pub returns-then-not-is_same_hello : goal.returns-then-not-is_same_hello
returns-then-not-is_same_hello c =
    let m : MessageFields = fields_of_message c.args.message.now in
    let no : c.is_same_hello.result ≡ false = search rules in (
      λ yes. absurd (false≢true yes),
      λ says. absurd (false≢true (sym no ∙ c.is_same_hello.ensures.1 (one_hello m c.requires.keeps c.args.read.now.hello c.args.hello.now c.requires.reads says.reads))),
    )

pub returns-then-not-are_tlvs_read : goal.returns-then-not-are_tlvs_read
returns-then-not-are_tlvs_read c =
    let no : c.are_tlvs_read.result ≡ false = search rules in
    let iff : IsTrue c.are_tlvs_read.result ↔ ((tlv : TlvFields) → Contains (map fields c.args.message.now.tlvs) tlv → IsReadOfHello tlv) =
    subst (λ (tlvs : List Tlv). IsTrue c.are_tlvs_read.result ↔ ((tlv : TlvFields) → Contains (map fields tlvs) tlv → IsReadOfHello tlv)) c.as_slice.ensures c.are_tlvs_read.ensures in (
      λ yes. absurd (false≢true yes),
      λ says. absurd (false≢true (sym no ∙ iff.1 says.tlvs)),
    )

pub is_all_read-requires-clause-width : goal.is_all_read-requires-clause-width
is_all_read-requires-clause-width c = hello_width (fields_of_message c.args.message.now) c.requires.keeps

pub returns : goal.returns
returns c =
    let m : MessageFields = fields_of_message c.args.message.now in
    let same : c.args.read.now.hello ≡ c.args.hello.now = c.is_same_hello.ensures.0 (search rules) in
    let iff : IsTrue c.are_tlvs_read.result ↔ ((tlv : TlvFields) → Contains (map fields c.args.message.now.tlvs) tlv → IsReadOfHello tlv) =
    subst (λ (tlvs : List Tlv). IsTrue c.are_tlvs_read.result ↔ ((tlv : TlvFields) → Contains (map fields tlvs) tlv → IsReadOfHello tlv)) c.as_slice.ensures c.are_tlvs_read.ensures in (
      λ yes. record {
        header = c.requires.header;
        reads = subst (λ (h : Hello). HelloIs m h) same c.requires.reads;
        keeps = c.requires.keeps;
        tlvs = iff.0 (search rules);
        parts = parts_by_rows m c.args.read.now.hello c.requires.reads (c.is_all_read.ensures.0 yes);
      },
      λ says. c.is_all_read.ensures.1 (rows_by_parts m c.args.read.now.hello c.requires.reads says.parts),
    )
