use Rattle.mesh_trace.proofs.Common.{◌≡◌, rules, ℕ, ◌≤◌, List, length, false, refl, sym, subst, ◌∙◌, All, Contains, IsTrue, ◌↔◌, map, false≢true, RawAddr, Block, BlockFields, fields_of_block, AddrTlv, AddrTlvFields, addr_fields, IsFit, SaysOnly}
use Rattle.mesh_trace.proofs.SpellingLemmas.Mapped.{item_at, before_more, before_all, all_mapped, one_mapped, mapped_item}
use Rattle.mesh_trace.proofs.spelling.parts.are_blocks_read.Goals as goal

pub is_block_read-requires-clause-fit : goal.is_block_read-requires-clause-fit
is_block_read-requires-clause-fit g c =
    let block : Block = c.index-blocks-i.result in
    let at = item_at c.args.blocks.now c.loop-i.i block c.loop-i-test.true c.index-blocks-i.is in
    let fit = one_mapped fields_of_block c.args.blocks.now (λ (b : BlockFields). All (IsFit (length b.addrs)) b.tlvs) c.requires.fit c.loop-i.i block at in
    subst (λ (addrs : List RawAddr). All (IsFit (length addrs)) (map addr_fields c.as_slice-in-loop-i.result.now)) (sym c.as_slice.ensures)
    (subst (λ (tlvs : List AddrTlv). All (IsFit (length block.addrs.addrs)) (map addr_fields tlvs)) (sym c.as_slice-in-loop-i.ensures) fit)

pub is_block_read-requires-clause-narrow : goal.is_block_read-requires-clause-narrow
is_block_read-requires-clause-narrow g c =
    let block : Block = c.index-blocks-i.result in
    let at = item_at c.args.blocks.now c.loop-i.i block c.loop-i-test.true c.index-blocks-i.is in
    subst (All (λ (a : RawAddr). a.prefix ≤ 32)) (sym c.as_slice.ensures)
    (one_mapped fields_of_block c.args.blocks.now (λ (b : BlockFields). All (λ (a : RawAddr). a.prefix ≤ 32) b.addrs) c.requires.narrow c.loop-i.i block at)

pub returns-then-not-is_block_read : goal.returns-then-not-is_block_read
returns-then-not-is_block_read g c =
    let block : Block = c.index-blocks-i.result in
    let at = item_at c.args.blocks.now c.loop-i.i block c.loop-i-test.true c.index-blocks-i.is in
    let no : c.is_block_read.result ≡ false = search rules in
    let iff : IsTrue c.is_block_read.result ↔ ((tlv : AddrTlvFields) → Contains (map addr_fields block.tlvs) tlv → SaysOnly (g.L.Looks.reads c.args.looks.now) block.addrs.addrs tlv) =
    subst (λ (addrs : List RawAddr). IsTrue c.is_block_read.result ↔ ((tlv : AddrTlvFields) → Contains (map addr_fields block.tlvs) tlv → SaysOnly (g.L.Looks.reads c.args.looks.now) addrs tlv)) c.as_slice.ensures
    (subst (λ (tlvs : List AddrTlv). IsTrue c.is_block_read.result ↔ ((tlv : AddrTlvFields) → Contains (map addr_fields tlvs) tlv → SaysOnly (g.L.Looks.reads c.args.looks.now) c.as_slice.result.now tlv)) c.as_slice-in-loop-i.ensures c.is_block_read.ensures) in (
      λ yes. absurd (false≢true yes),
      λ all. absurd (false≢true (sym no ∙ iff.1 (all (fields_of_block block) (mapped_item fields_of_block c.args.blocks.now c.loop-i.i block at)))),
    )

pub loop-i-preserved : goal.loop-i-preserved
loop-i-preserved g c =
    let block : Block = c.index-blocks-i.result in
    let at = item_at c.args.blocks.now c.loop-i.i block c.loop-i-test.true c.index-blocks-i.is in
    let yes : IsTrue c.is_block_read.result = search rules in
    let says : (tlv : AddrTlvFields) → Contains (map addr_fields block.tlvs) tlv → SaysOnly (g.L.Looks.reads c.args.looks.now) block.addrs.addrs tlv =
    subst (λ (addrs : List RawAddr). (tlv : AddrTlvFields) → Contains (map addr_fields block.tlvs) tlv → SaysOnly (g.L.Looks.reads c.args.looks.now) addrs tlv) c.as_slice.ensures
    (subst (λ (tlvs : List AddrTlv). (tlv : AddrTlvFields) → Contains (map addr_fields tlvs) tlv → SaysOnly (g.L.Looks.reads c.args.looks.now) c.as_slice.result.now tlv) c.as_slice-in-loop-i.ensures (c.is_block_read.ensures.0 yes)) in
    before_more (λ (j : ℕ) (b : Block). (tlv : AddrTlvFields) → Contains (fields_of_block b).tlvs tlv → SaysOnly (g.L.Looks.reads c.args.looks.now) (fields_of_block b).addrs tlv)
    c.args.blocks.now c.loop-i.i block at says c.loop-i.invariant

pub returns : goal.returns
returns g c = (
  λ _. all_mapped fields_of_block c.args.blocks.now (λ (b : BlockFields). (tlv : AddrTlvFields) → Contains b.tlvs tlv → SaysOnly (g.L.Looks.reads c.args.looks.now) b.addrs tlv)
      (before_all (λ (j : ℕ) (b : Block). (tlv : AddrTlvFields) → Contains (fields_of_block b).tlvs tlv → SaysOnly (g.L.Looks.reads c.args.looks.now) (fields_of_block b).addrs tlv)
      c.args.blocks.now c.loop-i.i c.loop-i-test.false c.loop-i.invariant),
  λ _. refl,
)
