use Rattle.mesh_trace.proofs.Common.{◌≡◌, rules, ℕ, length, slice_index_or, false, refl, sym, ◌∙◌, IsTrue, None, false≢true, slice_get-get_or, AddrTlv, addr_fields, IsFit, SaysOnly}
use Rattle.mesh_trace.proofs.SpellingLemmas.Mapped.{before_more, before_all, all_mapped, one_mapped, mapped_item}
use Rattle.mesh_trace.proofs.spelling.parts.is_block_read.Goals as goal

pub is_addr_tlv_read-requires-clause-fit : goal.is_addr_tlv_read-requires-clause-fit
is_addr_tlv_read-requires-clause-fit g c =
    let none : AddrTlv = record { kind = 0; ext = 0; first = 0; last = 0; multi = false; value = None } in
    let tlvs = c.args.tlvs.now in
    one_mapped addr_fields tlvs (IsFit (length c.args.addrs.now)) c.requires.fit c.loop-i.i (slice_index_or tlvs c.loop-i.i none) (slice_get-get_or tlvs c.loop-i.i none c.loop-i-test.true)

pub loop-i-preserved : goal.loop-i-preserved
loop-i-preserved g c =
    let none : AddrTlv = record { kind = 0; ext = 0; first = 0; last = 0; multi = false; value = None } in
    let tlvs = c.args.tlvs.now in
    let yes : IsTrue c.is_addr_tlv_read.result = search rules in
    before_more (λ (j : ℕ) (tlv : AddrTlv). SaysOnly (g.L.Looks.reads c.args.looks.now) c.args.addrs.now (addr_fields tlv)) tlvs c.loop-i.i (slice_index_or tlvs c.loop-i.i none)
    (slice_get-get_or tlvs c.loop-i.i none c.loop-i-test.true) (c.is_addr_tlv_read.ensures.0 yes) c.loop-i.invariant

pub returns-then-not-is_addr_tlv_read : goal.returns-then-not-is_addr_tlv_read
returns-then-not-is_addr_tlv_read g c =
    let none : AddrTlv = record { kind = 0; ext = 0; first = 0; last = 0; multi = false; value = None } in
    let tlvs = c.args.tlvs.now in
    let tlv : AddrTlv = slice_index_or tlvs c.loop-i.i none in
    let no : c.is_addr_tlv_read.result ≡ false = search rules in (
      λ yes. absurd (false≢true yes),
      λ all. absurd (false≢true (sym no ∙ c.is_addr_tlv_read.ensures.1 (all (addr_fields tlv) (mapped_item addr_fields tlvs c.loop-i.i tlv (slice_get-get_or tlvs c.loop-i.i none c.loop-i-test.true))))),
    )

pub returns : goal.returns
returns g c = (
  λ _. all_mapped addr_fields c.args.tlvs.now (SaysOnly (g.L.Looks.reads c.args.looks.now) c.args.addrs.now)
      (before_all (λ (j : ℕ) (tlv : AddrTlv). SaysOnly (g.L.Looks.reads c.args.looks.now) c.args.addrs.now (addr_fields tlv)) c.args.tlvs.now c.loop-i.i c.loop-i-test.false c.loop-i.invariant),
  λ _. refl,
)
