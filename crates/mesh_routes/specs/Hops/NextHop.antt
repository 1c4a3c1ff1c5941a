-- Which route an address takes.
use Rattle.std.specs.Prelude.{◌≡◌, ℕ, List, Some, slice_get}
use Rattle.mesh_atoms.specs.declared.addr.Addr4.{Addr4}
use Rattle.mesh_atoms.specs.declared.addr.NetAddr.{NetAddr}
use Rattle.mesh_atoms.specs.declared.graphs.Route.{Route}
use Rattle.mesh_atoms.specs.NextHop.{IsLongest}

-- the route to the node stands at the place
abbrev pub IsPlaceOf : List Route → NetAddr → ℕ → Type 0
IsPlaceOf routes node k = (r : Route) × (slice_get routes k ≡ Some r) × (r.dest ≡ node)

-- such a route stands at the place
abbrev pub IsLongestAt : List Route → Addr4 → ℕ → Type 0
IsLongestAt routes a k = (r : Route) × (slice_get routes k ≡ Some r) × IsLongest routes a r
