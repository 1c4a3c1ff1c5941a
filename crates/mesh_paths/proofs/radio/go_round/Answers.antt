use Rattle.mesh_paths.proofs.Common.{ℕ, length, subst, sym, inl, inr, IsInside}
use Rattle.mesh_paths.proofs.Rows.{item_in}
use Rattle.mesh_paths.proofs.RadioLaw.{goes_on}
use Rattle.mesh_paths.proofs.radio.go_round.Goals as goal
use Rattle.mesh_paths.proofs.radio.go_round.Goals.{then-lower, else-lower}

pub lower-requires : goal.lower-requires
lower-requires c = record {
  inside = subst (λ (n : ℕ). IsInside n c.pair-item.result) (sym c.loop-pair.auto.parts) (c.requires.inside c.pair-item.result (item_in c.args.pairs.now c.loop-pair.pair-index c.pair-item.result c.pair-item.is c.loop-pair-test.true));
}

pub loop-pair-preserved : goal.loop-pair-preserved
loop-pair-preserved c =
    let inside : IsInside (length c.loop-pair.parts) c.pair-item.result = subst (λ (n : ℕ). IsInside n c.pair-item.result) (sym c.loop-pair.auto.parts) (c.requires.inside c.pair-item.result (item_in c.args.pairs.now c.loop-pair.pair-index c.pair-item.result c.pair-item.is c.loop-pair-test.true)) in
    let (parts, gone) = goes_on c.loop-pair.changed c.if-lower.changed c.lower.result c.args.parts.now c.loop-pair.parts c.lower.new.parts c.args.pairs.now c.loop-pair.pair-index c.pair-item.result c.pair-item.is c.loop-pair-test.true
    inside c.loop-pair.invariant.parts c.loop-pair.invariant.gone c.lower.ensures
    (elim c.if-lower.branch [ then-lower w ↦ inl (w.if-lower.true, w.changed-is) | else-lower w ↦ inr (w.if-lower.false, w.changed-is) ]) in
    record { parts = parts; gone = gone }
