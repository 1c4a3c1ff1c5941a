use Rattle.mesh_settled.proofs.Common.{◌≡◌, Some, refl, slice_get_read, claim_if}
use Rattle.mesh_settled.proofs.GapsLemmas.JointLemmas.{found_one, none_one, none_found}
use Rattle.mesh_settled.proofs.GapsLemmas.RowLemmas.{value_self}
use Rattle.mesh_settled.proofs.gaps.topics.claim_in.Goals as goal

pub returns-then-is_some : goal.returns-then-is_some
returns-then-is_some c =
    found_one (λ row t. claim_if c.args.topic c.args.net c.args.ansn row ≡ Some t) c.args.rows.now c.loop-k.k c.index-rows-k.result c.claim_if-claim.result
    (slice_get_read c.args.rows.now _ c.loop-k.k c.index-rows-k.result refl c.loop-k-test.true c.index-rows-k.is) c.if-is_some.ensures (value_self c.claim_if-claim.result _ c.claim_if-claim.ensures)

pub loop-k-preserved : goal.loop-k-preserved
loop-k-preserved c =
    none_one (λ row t. claim_if c.args.topic c.args.net c.args.ansn row ≡ Some t) c.args.rows.now c.loop-k.k c.index-rows-k.result c.claim_if-claim.result
    (slice_get_read c.args.rows.now _ c.loop-k.k c.index-rows-k.result refl c.loop-k-test.true c.index-rows-k.is) c.if-is_some.ensures (value_self c.claim_if-claim.result _ c.claim_if-claim.ensures) c.loop-k.invariant

pub returns : goal.returns
returns c = none_found (λ row t. claim_if c.args.topic c.args.net c.args.ansn row ≡ Some t) c.args.rows.now c.loop-k.k c.loop-k-test.false c.loop-k.invariant
