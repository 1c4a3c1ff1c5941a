use Rattle.mesh_emulate.proofs.Common.{◌≡◌, ◌+◌, ◌*◌, ◌∷◌, [], ◌++◌, length, take, get_or, arith, append_assoc, length-take, take_more, RouterPair, AreMadeArcs}
use Rattle.mesh_emulate.proofs.MakingLemmas.Growing.{arcs_more}
use Rattle.mesh_emulate.proofs.making.arcs.arcs_of.Goals as goal

pub loop-i-preserved : goal.loop-i-preserved
loop-i-preserved c =
    let pairs = c.args.pairs.now in
    let i = c.loop-i.i in
    let none : RouterPair = record { low = 0; high = 0 } in
    let place : 0 + 2 * length (take i pairs) ≡ 2 * i = omega (arith, length-take i pairs, c.loop-i-test.true) in
    let grown : AreMadeArcs c.args.kind c.args.routers c.args.seed 0 (take i pairs ++ get_or pairs i none ∷ []) (c.loop-i.arcs ++ c.arc_of-there.result ∷ c.arc_of-back.result ∷ []) =
    arcs_more c.args.kind c.args.routers c.args.seed 0 (take i pairs) (get_or pairs i none) c.loop-i.arcs c.arc_of-there.result c.arc_of-back.result (2 * i) place
    c.loop-i.invariant c.arc_of-there.ensures c.arc_of-back.ensures in
    rw (c.in_ok-push-2.ensures.ok, c.in_ok-push.ensures.ok, append_assoc, take_more pairs i none c.loop-i-test.true) grown
