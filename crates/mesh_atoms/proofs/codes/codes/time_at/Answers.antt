-- Two octets further, the pair before did not reach.
use Rattle.mesh_atoms.proofs.Common.{◌≡◌, ℕ, ◌+◌, ◌*◌, drop, subst, ◌∙◌, arith, time_at_distance}
use Rattle.mesh_atoms.proofs.CodesLemmas.CodeLaws.{time_further}
use Rattle.mesh_atoms.proofs.codes.codes.time_at.Goals as goal

pub loop-pair-preserved : goal.loop-pair-preserved
loop-pair-preserved c =
    let at : ℕ = 2 * c.loop-pair.pair in
    let next : at + 2 ≡ 2 * (c.loop-pair.pair + 1) = omega arith in
    let more = time_further c.args.distance c.args.value.now at (omega arith) (omega (arith, c.from.ensures)) in
    c.loop-pair.invariant ∙ subst (λ (n : ℕ). time_at_distance c.args.distance (drop at c.args.value.now) ≡ time_at_distance c.args.distance (drop n c.args.value.now)) next more
