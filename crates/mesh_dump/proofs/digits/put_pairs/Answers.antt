use Rattle.mesh_dump.proofs.Common.{◌≡◌, length, subst, arith, ltb-true, AreHexPairs}
use Rattle.mesh_dump.proofs.Pairs.{pairs_decode}
use Rattle.mesh_dump.proofs.digits.put_pairs.Goals as goal

pub returns-then-put_wide-clause-octets : goal.returns-then-put_wide-clause-octets
returns-then-put_wide-clause-octets c = λ few.
    let text = c.args.text.now in
    let wide = c.put_wide.ensures.octets c.if-put_wide.true in
    let same : length c.put_wide.new.out ≡ length c.put_rest.new.out = omega (arith, c.put_rest.ensures.len) in
    pairs_decode 0 text c.put_rest.new.out (omega (arith, c.requires, c.put_wide.ensures.len, c.put_rest.ensures.len))
    (subst (AreHexPairs text c.put_rest.new.out) same (c.put_rest.ensures.octets (ltb-true _ _ few) (rw c.put_wide.ensures.len wide)))
