use Rattle.mesh_trace.proofs.Common.{subst, NetAddr}
use Rattle.mesh_wire.proofs.Collecting.{one_net}
use Rattle.mesh_trace.proofs.spelling.parts.is_one_read.Goals as goal

pub returns-in-Some : goal.returns-in-Some
returns-in-Some g c =
    let a = c.args.address.now in
    let here = c.in-Some.ensures.net in (
      λ yes net is. subst (λ (n : NetAddr). g.L.Looks.reads c.args.looks.now n c.args.tlv.now.kind c.args.tlv.now.ext c.args.octets.now) (one_net a c.in-Some.net net here is) (c.is_read.ensures.0 yes),
      λ all. c.is_read.ensures.1 (all c.in-Some.net here),
    )
