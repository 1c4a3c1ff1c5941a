use Rattle.mesh_trace.proofs.Common.{ℕ, ◌++◌, sym, ap, subst, ◌∙◌, arith, slice_range, fields_of_block}
use Rattle.mesh_tlv.specs.Grammar.{SpellsAddrTlvBlock}
use Rattle.mesh_trace.proofs.SpellingLemmas.Pairs.{given, is_nothing, parts, behind_addrs, place_behind}
use Rattle.mesh_trace.proofs.spelling.brief.behind_pair.Goals as goal

pub behind_addr_tlvs-requires-clause-at : goal.behind_addr_tlvs-requires-clause-at
behind_addr_tlvs-requires-clause-at c =
    let (text, rest, p, e) = c.requires.spelled in
    let b = fields_of_block c.args.block.now in
    let whole = parts c.args.frame.now c.args.at c.args.end b.width b text rest p c.requires.end e in
    let first = given c.in_ok-next.field-0 c.in-Some.next _ c.in-Some.is (c.in_ok-next.ensures.brief p.addrs (p.tlvs ++ rest) p.addrs_is whole) in
    let behind = behind_addrs c.args.frame.now c.args.at c.args.end b.width b text rest p c.requires.end e in
    omega (arith, first.0, behind.0)

pub returns-in_ok-behind_addr_tlvs-in-Some-clause-some : goal.returns-in_ok-behind_addr_tlvs-in-Some-clause-some
returns-in_ok-behind_addr_tlvs-in-Some-clause-some c = λ text rest p e.
    let b = fields_of_block c.args.block.now in
    let whole = parts c.args.frame.now c.args.at c.args.end b.width b text rest p c.requires.end e in
    let first = given c.in_ok-next.field-0 c.in-Some.next _ c.in-Some.is (c.in_ok-next.ensures.brief p.addrs (p.tlvs ++ rest) p.addrs_is whole) in
    let behind = behind_addrs c.args.frame.now c.args.at c.args.end b.width b text rest p c.requires.end e in
    let there = ap (λ (n : ℕ). slice_range c.args.frame.now n c.args.end) first.0 ∙ behind.1 in
    let next = c.in_ok-behind_addr_tlvs-in-Some.ensures b.tlvs p.tlvs rest (subst (λ (n : ℕ). SpellsAddrTlvBlock n b.tlvs p.tlvs) (sym c.len-count.ensures) p.tlvs_is) there in
    (omega (arith, next, first.0, place_behind c.args.frame.now c.args.at c.args.end b.width b text rest p c.requires.end e), record { pair = p; fewest = first.1 })

pub returns-in-None-clause-none : goal.returns-in-None-clause-none
returns-in-None-clause-none c = λ none text rest brief e.
    let b = fields_of_block c.args.block.now in
    let p = brief.pair in
    let whole = parts c.args.frame.now c.args.at c.args.end b.width b text rest p c.requires.end e in
    let (other, spelled, less) = c.in_ok-next.ensures.wordy p.addrs (p.tlvs ++ rest) p.addrs_is whole (is_nothing c.in_ok-next.field-0 c.in-None.is) in
    let most = brief.fewest other spelled in
    omega (arith, less, most)
