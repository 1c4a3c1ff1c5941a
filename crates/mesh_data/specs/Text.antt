-- The text of a trip.
use Rattle.std.specs.Prelude.{ℕ, List, [], ◌++◌, length, Option, Some, None, codes, decimal, slice_get}
use Rattle.std.specs.List.{flat_map}
use Rattle.mesh_atoms.specs.declared.addr.Addr4.{Addr4}
use Rattle.mesh_atoms.specs.declared.settings.Interface.{Interface}
use Rattle.mesh_atoms.specs.declared.settings.RouterSettings.{RouterSettings}
use Rattle.mesh_atoms.specs.declared.settings.Scenario.{Scenario}
use Rattle.mesh_machine.specs.Names.{router_name}
use Rattle.mesh_data.specs.declared.trip.End.{End}
use Rattle.mesh_data.specs.declared.trip.End.TheVariants.{Arrived, NoRoute, NoArc, TooFar}
use Rattle.mesh_data.specs.declared.trip.Hop.{Hop}
use Rattle.mesh_data.specs.declared.trip.Trip.{Trip}
use Rattle.mesh_data.specs.Dotted.{dotted}

-- the name of an interface; nothing where there is none
abbrev pub interface_name : Option Interface → List ℕ
interface_name None = []
interface_name (Some i) = i.name

-- the name of the router's interface i; nothing where there is none
abbrev pub interface_in : Option RouterSettings → ℕ → List ℕ
interface_in None i = []
interface_in (Some r) i = interface_name (slice_get r.interfaces i)

-- how a trip ends
abbrev pub end_name : End → List ℕ
end_name Arrived = codes "arrived"
end_name NoRoute = codes "noroute"
end_name NoArc = codes "noarc"
end_name TooFar = codes "toofar"

-- the line of a hop: from which interface of which router, to which router, at which metric
abbrev pub hop_start : Scenario → Hop → List ℕ
hop_start s hop = codes " hop " ++ router_name s.routers hop.from ++ codes " " ++ interface_in (slice_get s.routers hop.from) hop.iface

-- the second half of the line
abbrev pub hop_end : Scenario → Hop → List ℕ
hop_end s hop = codes " to " ++ router_name s.routers hop.to ++ codes " metric " ++ decimal hop.metric ++ codes "\n"

-- the whole line
abbrev pub hop_line : Scenario → Hop → List ℕ
hop_line s hop = hop_start s hop ++ hop_end s hop

-- the first line: from which router to which address; how the trip ends, at which router, what it cost, and how many hops it took
abbrev pub trip_start : Scenario → ℕ → Addr4 → List ℕ
trip_start s from a = codes "send " ++ router_name s.routers from ++ codes " " ++ dotted a

-- the second half of the first line
abbrev pub trip_end : Scenario → Trip → List ℕ
trip_end s trip =
    codes " end " ++ end_name trip.end ++ codes " at " ++ router_name s.routers trip.last ++ codes " metric " ++ decimal trip.metric
    ++ codes " hops " ++ decimal (length trip.hops) ++ codes "\n"

-- and a line for each hop
abbrev pub text_of : Scenario → ℕ → Addr4 → Trip → List ℕ
text_of s from a trip = trip_start s from a ++ trip_end s trip ++ flat_map (hop_line s) trip.hops
