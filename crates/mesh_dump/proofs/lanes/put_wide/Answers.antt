use Rattle.mesh_dump.proofs.Common.{common_steps, ◌+◌, ◌*◌, ◌≤◌, length, ap, ◌∙◌, arith, length-put_chunk}
use Rattle.mesh_dump.proofs.Wide.{both_low, sixteen_more}
use Rattle.mesh_dump.proofs.lanes.put_wide.Goals as goal

pub loop-i-preserved : goal.loop-i-preserved
loop-i-preserved c =
    let i = c.loop-i.i in
    let room : 16 * i + 16 ≤ length c.loop-i.out = omega (arith, c.loop-i-test.true, c.loop-i.invariant.size) in record {
      size = ap length c.store.ensures ∙ length-put_chunk (16 * i) c.loop-i.out c.octets_of.result ∙ c.loop-i.invariant.size;
      pairs = λ low.
          let parts = both_low c.loop-i.all c.values-digits.result c.either-all.result c.either-all.ensures.each low in
          rw c.store.ensures (sixteen_more c.args.text.now c.loop-i.out c.load.result c.values-digits.result c.octets_of.result i room c.octets_of.ensures.len (λ k. omega (arith, c.type_inv.text k))
          c.load.ensures.each c.values-digits.ensures.each c.octets_of.ensures.each parts.1 (c.loop-i.invariant.pairs parts.0));
    }

pub returns-clause-octets : goal.returns-clause-octets
returns-clause-octets c = grind (arith, common_steps, c.loop-i.invariant.size, c.loop-i.invariant.pairs, c.are_low.ensures)
