use Rattle.mesh_trace.proofs.Common.{List, refl, ap, arith, slice_index_or, false≢true, IfOk-weaker, Span, MessageFields, PacketFields, fields_of_message, fields_of_packet, SaysHello}
use Rattle.mesh_trace.proofs.SpellingLemmas.Hellos.{writes_of, sole_of}
use Rattle.mesh_trace.proofs.SpellingLemmas.OneMessage.{alone_spans, sole_is, not_sole}
use Rattle.mesh_trace.proofs.spelling.hello.is_hello.Goals as goal

pub returns-in-Some : goal.returns-in-Some
returns-in-Some c =
    let bytes = c.args.bytes.now in
    let hello = c.args.hello.now in
    let packet : PacketFields = fields_of_packet c.args.decoded.now.packet in
    let spans = c.args.decoded.now.spans in
    let m : MessageFields = fields_of_message c.in-Some.message.now in
    let none : Span = record { start = 0; len = 0 } in
    let s : Span = slice_index_or c.as_slice.result.now 0 none in
    let is = alone_spans packet m spans s none bytes c.in-Some.ensures.some c.requires.placed.same (ap (λ (l : List Span). slice_index_or l 0 none) c.as_slice.ensures) c.requires.value in
    IfOk-weaker c.tells_hello.result _ _ (λ yes tells.
    let iff = sole_is (SaysHello hello) bytes yes m s is (λ i. omega (arith, c.type_inv.bytes i)) tells in
    (λ y. writes_of hello bytes (iff.0 y), λ w. iff.1 (sole_of hello bytes w))) c.tells_hello.ensures

pub returns-in-None : goal.returns-in-None
returns-in-None c =
    let bytes = c.args.bytes.now in
    (λ yes. absurd (false≢true yes), λ w. absurd (not_sole (SaysHello c.args.hello.now) bytes (fields_of_packet c.args.decoded.now.packet) c.args.decoded.now.spans c.requires.value (λ m e. c.in-None.ensures.none refl m e) (sole_of c.args.hello.now bytes w)))
