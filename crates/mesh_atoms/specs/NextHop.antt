-- Which route an address takes.
use Rattle.std.specs.Prelude.{◌≡◌, ◌-◌, ◌*◌, ◌/◌, ◌^◌, ◌≤◌, List, Contains}
use Rattle.mesh_atoms.specs.declared.addr.Addr4.{Addr4}
use Rattle.mesh_atoms.specs.declared.addr.NetAddr.{NetAddr}
use Rattle.mesh_atoms.specs.declared.graphs.Route.{Route}
use Rattle.mesh_atoms.specs.declared.settings.Interface.{Interface}

-- the network has the address: with the bits after the prefix cleared it is the network's
abbrev pub Holds : NetAddr → Addr4 → Type 0
Holds net a = a.0 / 2 ^ (32 - net.prefix) * 2 ^ (32 - net.prefix) ≡ net.addr.0

-- of the routes to networks that have the address, one with the longest prefix
pub record IsLongest (routes : List Route) (a : Addr4) (route : Route) : Type 0 where
  pub stands : Contains routes route
  pub holds : Holds route.dest a
  pub longest : (r : Route) → Contains routes r → Holds r.dest a → r.dest.prefix ≤ route.dest.prefix

-- no route leads to the address
abbrev pub HasNoRouteTo : List Route → Addr4 → Type 0
HasNoRouteTo routes a = (r : Route) → Contains routes r → Holds r.dest a → ⊥

-- an address of one of the interfaces
abbrev pub HasAddressIn : List Interface → Addr4 → Type 0
HasAddressIn interfaces a = (iface : Interface) × Contains interfaces iface × Contains iface.addrs a
