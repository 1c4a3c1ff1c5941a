use Rattle.mesh_emulate.proofs.Common.{◌+◌, ◌%◌, ℕ, sym, arith, map-range_with_len_more, pair, word}
use Rattle.mesh_emulate.proofs.making.pairs.tree_pairs.Goals as goal

pub loop-i-preserved : goal.loop-i-preserved
loop-i-preserved c =
    rw (c.in_ok-push.ensures.ok, c.loop-i.invariant, c.word_below.ensures.value)
    (sym (map-range_with_len_more (λ (i : ℕ). pair (word c.args.seed i % (i + 1)) (i + 1)) 0 c.loop-i.i c.loop-i.i (omega arith)))
