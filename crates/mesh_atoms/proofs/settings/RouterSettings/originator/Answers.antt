use Rattle.mesh_atoms.proofs.Common.{◌≡◌, ◌<◌, sym, ◌∙◌, ap, arith, length, map, List, Some, slice_index_or, length-map, slice_get-get_or, Addr4, Interface}
use Rattle.mesh_atoms.proofs.settings.RouterSettings.originator.Goals as goal

pub returns-clause-is : goal.returns-clause-is
returns-clause-is c =
    let faces = c.args.self.now.interfaces in
    let face = c.index-as_slice-0.result in
    let count : length (map (λ (i : Interface). i.name) faces) ≡ length faces = length-map faces (λ (i : Interface). i.name) in
    let some : 0 < length faces = omega (arith, count, c.args.self.now.sound.interfaces.at_least) in
    let none : Addr4 = record { 0 = 0 } in
    let here : face ≡ slice_index_or faces 0 face = c.index-as_slice-0.is ∙ ap (λ (xs : List Interface). slice_index_or xs 0 face) c.as_slice.ensures in
    let addrs : c.as_slice-2.result.now ≡ face.addrs = c.as_slice-2.ensures ∙ ap (λ (f : Interface). f.addrs) (sym c.index-as_slice-0.is) in (
      face,
      slice_get-get_or faces 0 face some ∙ ap (λ (f : Interface). Some f) (sym here),
      slice_get-get_or face.addrs 0 none face.sound.few.at_least ∙ ap (λ (xs : List Addr4). Some (slice_index_or xs 0 none)) (sym addrs),
    )
