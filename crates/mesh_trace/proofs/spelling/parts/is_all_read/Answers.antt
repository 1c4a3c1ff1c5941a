use Rattle.mesh_trace.proofs.Common.{ℕ, List, map, sym, subst, All, IsTrue, ◌≤◌, ◌↔◌, slice_index_or, RawAddr, IsWritable, Block, BlockFields, MessageFields, fields_of_block, fields_of_message}
use Rattle.mesh_trace.proofs.SpellingLemmas.Told.{raw_narrow, BlocksSayOnly, parts_of_blocks, blocks_of_parts}
use Rattle.mesh_trace.proofs.spelling.parts.is_all_read.Goals as goal

pub are_blocks_read-requires-clause-narrow : goal.are_blocks_read-requires-clause-narrow
are_blocks_read-requires-clause-narrow g c =
    subst (λ (blocks : List Block). All (λ (b : BlockFields). All (λ (a : RawAddr). a.prefix ≤ 32) b.addrs) (map fields_of_block blocks)) (sym c.as_slice.ensures)
    (λ k d lt.
    let b = slice_index_or (map fields_of_block c.args.message.now.blocks) k d in
    let fit : IsWritable 4 b.addrs = subst (λ (w : ℕ). IsWritable w b.addrs) c.requires.width (c.requires.encodable.blocks k d lt).addrs in
    raw_narrow b.addrs fit.raw)

pub returns : goal.returns
returns g c =
    let m : MessageFields = fields_of_message c.args.message.now in
    let iff : IsTrue c.are_blocks_read.result ↔ BlocksSayOnly (g.L.Looks.reads c.args.looks.now) m =
    subst (λ (blocks : List Block). IsTrue c.are_blocks_read.result ↔ BlocksSayOnly (g.L.Looks.reads c.args.looks.now) (record m { blocks = map fields_of_block blocks })) c.as_slice.ensures c.are_blocks_read.ensures in (
      λ yes. parts_of_blocks (g.L.Looks.reads c.args.looks.now) m (iff.0 yes),
      λ tells. iff.1 (blocks_of_parts (g.L.Looks.reads c.args.looks.now) m tells),
    )
