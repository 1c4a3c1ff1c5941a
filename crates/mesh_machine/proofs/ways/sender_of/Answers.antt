use Rattle.mesh_machine.proofs.Common.{◌≡◌, ◌<◌, get_or, refl, subst, length, List, Some, slice_get, slice_get_read, slice_get_within, slice_get-get_or, RouterSettings}
use Rattle.mesh_machine.proofs.Places.{same_at}
use Rattle.mesh_atoms.specs.declared.settings.Interface.{Interface}
use Rattle.mesh_machine.proofs.ways.sender_of.Goals as goal

pub returns : goal.returns
returns c =
    let router : RouterSettings = c.index-as_slice-arc.result in
    let face : Interface = c.index-as_slice-arc-2.result in
    let routers : List RouterSettings = c.args.scenario.now.routers in
    let there : router ≡ get_or routers c.args.arc.now.from router = subst (λ (l : List RouterSettings). router ≡ get_or l c.args.arc.now.from router) c.as_slice.ensures c.index-as_slice-arc.is in
    let here : face ≡ get_or router.interfaces c.args.arc.now.from_iface face = subst (λ (l : List Interface). face ≡ get_or l c.args.arc.now.from_iface face) c.as_slice-2.ensures c.index-as_slice-arc-2.is in
    let stands : slice_get routers c.args.arc.now.from ≡ Some router = slice_get_read routers (length routers) c.args.arc.now.from router refl (slice_get_within _ _ _ c.requires.stands) there in
    let same : c.requires.router ≡ router = same_at routers c.args.arc.now.from c.requires.router router c.requires.stands stands in
    record {
      router = router;
      face = face;
      router_is = stands;
      face_is = slice_get_read router.interfaces (length router.interfaces) c.args.arc.now.from_iface face refl (subst (λ (r : RouterSettings). c.args.arc.now.from_iface < length r.interfaces) same c.requires.iface) here;
      address = rw c.as_slice-3.ensures (slice_get-get_or face.addrs 0 (record { 0 = 0 }) face.sound.few.at_least);
    }
