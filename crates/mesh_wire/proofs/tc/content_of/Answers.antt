use Rattle.mesh_wire.proofs.TcHeading.{content_made}
use Rattle.mesh_wire.proofs.tc.content_of.Goals as goal

pub returns-else-octets-ne2-clause-some : goal.returns-else-octets-ne2-clause-some
returns-else-octets-ne2-clause-some c =
    content_made c.args.message.now.tlvs c.as_slice.result.now c.in-Value.tlv c.octets_of-octets.result.now c.short_of.result c.as_slice.ensures c.in-Value.ensures c.octets_of-octets.ensures c.if-octets-ne2.false c.short_of.ensures
