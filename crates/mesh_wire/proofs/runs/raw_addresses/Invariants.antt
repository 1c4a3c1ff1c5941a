use Rattle.mesh_wire.proofs.Common.{◌≡◌, map, take, AddressRecord, raw_of}
use Rattle.mesh_wire.proofs.runs.raw_addresses.Given as goal

abbrev pub invariant-loop-line : goal.invariant-loop-line
invariant-loop-line l = l.addrs ≡ map (λ (x : AddressRecord). raw_of x.net) (take l.line-index l.lines)
