use Rattle.mesh_report.proofs.Common.{◌+◌, ◌*◌, ◌≤◌, length, ap, ◌∙◌, arith, length-put_chunk}
use Rattle.mesh_report.proofs.LaidHex.{sixteen_more}
use Rattle.mesh_report.proofs.lanes.lay_wide.Goals as goal

pub loop-i-preserved : goal.loop-i-preserved
loop-i-preserved c =
    let i = c.loop-i.i in
    let room : 32 * i + 32 ≤ length c.loop-i.out = omega (arith, c.loop-i-test.true, c.loop-i.invariant.size, c.requires) in record {
      size = ap length c.store.ensures ∙ length-put_chunk (32 * i) c.loop-i.out c.digits_of.result ∙ c.loop-i.invariant.size;
      laid = rw c.store.ensures (sixteen_more c.args.octets.now c.loop-i.out c.load.result c.digits_of.result i room c.digits_of.ensures.len c.load.ensures.each c.digits_of.ensures.each c.loop-i.invariant.laid);
    }
