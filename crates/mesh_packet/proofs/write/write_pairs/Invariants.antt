use Rattle.mesh_packet.proofs.Common.{map, take, SpellsItems, fields_of_block, LeastPair, Wrote}
use Rattle.mesh_packet.proofs.write.write_pairs.Given as goal

abbrev pub invariant-loop-block : goal.invariant-loop-block
invariant-loop-block l = record { wrote : Wrote (SpellsItems LeastPair (map fields_of_block (take l.block-index l.blocks))) l.initial.out l.out }
