use Rattle.mesh_settled.proofs.Common.{sym, ◌∙◌, ap, on_interface}
use Rattle.std.specs.Option.{option_copied}
use Rattle.mesh_settled.proofs.gaps.joints.addrs_of.Goals as goal

pub returns-in-Some : goal.returns-in-Some
returns-in-Some c = rw c.as_slice.ensures (on_interface c.args.settings.now c.args.iface c.in-Some.face.now (sym c.get.ensures ∙ ap option_copied c.in-Some.is))
