use Rattle.std.proofs.Common.{rules, ◌≡◌}
use Rattle.std.proofs.lemmas.Nat.{from_be_bytes-to_be_bytes_4}
use Rattle.std.specs.Int.{w32, to_be_bytes}
use Rattle.std.specs.Net.Addr.{ipv4_bits, ipv4_octets, IsIpv4OfBits}
use Rattle.mesh_air.proofs.system.address_of.Goals as goal

pub returns : goal.returns
unfolding ipv4_bits IsIpv4OfBits
returns c =
    let octets : ipv4_octets c.from_bits-host.result ≡ to_be_bytes w32 c.args.endpoint.addr.0 = c.from_bits-host.ensures in
    let bits : ipv4_bits c.from_bits-host.result ≡ c.args.endpoint.addr.0 = rw octets (from_be_bytes-to_be_bytes_4 _ (search rules)) in
    (rw c.new.ensures.ip bits, c.new.ensures.port)
