use Rattle.mesh_packet.proofs.Common.{subst, sym, ℕ, all_read, fields_of_block, IsEncodableBlock, LeastPair}
use Rattle.mesh_packet.proofs.Items.{wrote_next, item_passes}
use Rattle.mesh_packet.proofs.Writing.{handed_on}
use Rattle.mesh_packet.proofs.write.write_pairs.Goals as goal

pub write_pair-requires : goal.write_pair-requires
write_pair-requires c =
    let h = all_read fields_of_block (IsEncodableBlock c.args.width) c.args.blocks.now c.loop-block.block-index c.block-item.result c.requires c.loop-block-test.true c.block-item.is in
    subst (λ (w : ℕ). IsEncodableBlock w (fields_of_block c.block-item.result)) (sym h.width_is) h

pub returns-in_err-write_pair-clause-too_long : goal.returns-in_err-write_pair-clause-too_long
returns-in_err-write_pair-clause-too_long c = λ e.
    item_passes fields_of_block LeastPair c.args.blocks.now c.loop-block.block-index c.block-item.result c.loop-block-test.true c.block-item.is (c.write_pair.ensures.too_long (handed_on c.from_residual.result c.write_pair.result c.in_err-write_pair.field-0.0 c.in_err-write_pair.was c.from_residual.ensures.1 e))

pub loop-block-preserved : goal.loop-block-preserved
loop-block-preserved c = record { wrote = wrote_next fields_of_block LeastPair c.args.blocks.now c.loop-block.block-index c.block-item.result c.args.out.now c.loop-block.out c.write_pair.new.out c.loop-block-test.true c.block-item.is c.loop-block.invariant.wrote c.in_ok-write_pair.ensures.ok }
