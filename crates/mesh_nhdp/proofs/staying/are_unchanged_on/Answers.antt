use Rattle.mesh_nhdp.proofs.Common.{subst, IsTrue, ◌↔◌, Admit, AllStay}
use Rattle.mesh_nhdp.proofs.Expiry.{face_rule}
use Rattle.mesh_nhdp.proofs.staying.are_unchanged_on.Goals as goal

pub returns : goal.returns
returns g c =
    let settings = c.args.settings.now in
    subst (λ (rule : Admit). IsTrue c.are_unchanged.result ↔ AllStay rule settings.times.link_hold c.args.last c.args.now c.args.links.now)
    (face_rule settings c.args.iface c.as_slice.result.now c.index-as_slice-iface.result c.as_slice.ensures c.requires.iface c.index-as_slice-iface.is) c.are_unchanged.ensures
