use Rattle.mesh_hello.proofs.Common.{◌≡◌, ◌↔◌, ◌++◌, ◌∙◌, length, Contains, slice_get, Some, ap, subst, arith, Addr4, Interface}
use Rattle.mesh_hello.proofs.Collect.{SomeBelow, gathers_more, item_at, adds_all, iff_on}
use Rattle.mesh_hello.proofs.ToldLemmas.Mines.{all_interfaces}
use Rattle.mesh_hello.proofs.told.telling.own_addresses.Goals as goal

pub loop-face-preserved : goal.loop-face-preserved
loop-face-preserved c =
    let at : slice_get c.args.settings.now.interfaces c.loop-face.face-index ≡ Some c.face-item.result =
    subst (λ faces. slice_get faces c.loop-face.face-index ≡ Some c.face-item.result) c.as_slice-face-items.ensures
    (item_at c.as_slice-face-items.result.now c.loop-face.face-index c.face-item.result c.loop-face-test.true c.face-item.is) in
    gathers_more c.args.settings.now.interfaces (λ (face : Interface) (a : Addr4). Contains face.addrs a) c.loop-face.face-index c.face-item.result _ _ at c.loop-face.invariant
    (adds_all c.loop-face.own.items _ c.face-item.result.addrs (c.in_ok-extend_from_slice.ensures.items ∙ ap (λ more. c.loop-face.own.items ++ more) c.as_slice.ensures))

pub returns : goal.returns
returns c a =
    let same = ap length c.as_slice-face-items.ensures in
    let all : c.loop-face.face-index ≡ length c.args.settings.now.interfaces = omega (arith, same) in
    iff_on (subst (λ n. Contains c.loop-face.own.items a ↔ SomeBelow c.args.settings.now.interfaces n (λ face. Contains face.addrs a)) all (c.loop-face.invariant a)) (all_interfaces c.args.settings.now a)
