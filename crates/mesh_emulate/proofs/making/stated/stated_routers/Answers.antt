use Rattle.mesh_emulate.proofs.Common.{◌≡◌, ◌∷◌, [], ◌+◌, length, length-append, arith, each_more, IsStated}
use Rattle.mesh_emulate.proofs.making.stated.stated_routers.Goals as goal

pub loop-i-preserved : goal.loop-i-preserved
loop-i-preserved c =
    let all = c.loop-i.routers in
    let one = c.in_ok-router_of.field-0 in
    let here : 0 + length all ≡ c.loop-i.i = omega (arith, c.loop-i.invariant.count) in
    rw c.in_ok-push.ensures.ok (record {
      stated = each_more IsStated 0 c.loop-i.i all one c.loop-i.invariant.stated here c.in_ok-router_of.ensures;
      count = omega (arith, length-append all (one ∷ []), c.loop-i.invariant.count);
    })
