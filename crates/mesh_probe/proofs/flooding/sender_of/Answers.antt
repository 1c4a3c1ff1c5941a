use Rattle.mesh_probe.proofs.Common.{◌≡◌, ◌<◌, get_or, refl, subst, length, List, Some, slice_get, slice_get_read, slice_get_within, slice_get-get_or, RouterSettings, same_some}
use Rattle.mesh_atoms.specs.declared.settings.Interface.{Interface}
use Rattle.mesh_probe.proofs.flooding.sender_of.Goals as goal

pub returns : goal.returns
returns c =
    let (settings, stands, less) = c.requires in
    let x = c.args.frame.now.router in
    let i = c.args.frame.now.frame.iface in
    let router : RouterSettings = c.index-as_slice-frame.result in
    let face : Interface = c.index-as_slice-frame-2.result in
    let routers : List RouterSettings = c.args.scenario.now.routers in
    let there : router ≡ get_or routers x router = subst (λ (l : List RouterSettings). router ≡ get_or l x router) c.as_slice.ensures c.index-as_slice-frame.is in
    let here : face ≡ get_or router.interfaces i face = subst (λ (l : List Interface). face ≡ get_or l i face) c.as_slice-2.ensures c.index-as_slice-frame-2.is in
    let is : slice_get routers x ≡ Some router = slice_get_read routers (length routers) x router refl (slice_get_within routers x settings stands) there in
    let its : settings ≡ router = same_some stands is in
    let inside : i < length router.interfaces = subst (λ (r : RouterSettings). i < length r.interfaces) its less in (
      router,
      is,
      face,
      slice_get_read router.interfaces (length router.interfaces) i face refl inside here,
      rw c.as_slice-3.ensures (slice_get-get_or face.addrs 0 (record { 0 = 0 }) face.sound.few.at_least),
    )
