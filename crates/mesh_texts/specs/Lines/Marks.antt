-- The marks that the lines of routers and of their network are made of.
use Rattle.std.specs.Prelude.{ℕ, List, [], ◌∷◌, ◌++◌, Option, None, Some, Bool, codes, decimal, ◌==◌, ◌/◌, ◌%◌, if◌then◌else◌, slice_get, cond}
use Rattle.std.specs.List.{flat_map}
use Rattle.mesh_atoms.specs.declared.addr.Addr4.{Addr4}
use Rattle.mesh_atoms.specs.declared.addr.NetAddr.{NetAddr}
use Rattle.mesh_atoms.specs.declared.codes.metric.Metric.{Metric}
use Rattle.mesh_atoms.specs.declared.settings.Interface.{Interface}
use Rattle.mesh_atoms.specs.declared.settings.RouterSettings.{RouterSettings}
use Rattle.mesh_atoms.specs.Codes.Codes.{metric_value}
use Rattle.mesh_atoms.specs.declared.tuples.LinkState.{LinkState}
use Rattle.mesh_atoms.specs.declared.tuples.LinkState.TheVariants.{Pending as Is_pending, Lost as Is_lost, Symmetric as Is_symmetric, Heard as Is_heard}

-- parts one behind the other
abbrev pub joined : List (List ℕ) → List ℕ
joined [] = []
joined (part ∷ more) = part ++ joined more

-- a line: its parts, and a line feed
abbrev pub line_of : List (List ℕ) → List ℕ
line_of [] = codes "\n"
line_of (part ∷ more) = part ++ line_of more

-- an address: four numbers with dots between
unfoldable pub dotted : Addr4 → List ℕ
dotted a =
    (decimal (a.0 / 16777216) ++ codes "." ++ decimal (a.0 / 65536 % 256))
    ++ (codes "." ++ decimal (a.0 / 256 % 256) ++ codes "." ++ decimal (a.0 % 256))

-- a network: its address, a slash and its prefix
unfoldable pub slashed : NetAddr → List ℕ
slashed n = dotted n.addr ++ codes "/" ++ decimal n.prefix

-- a node: the address alone where it is a router's
unfoldable pub node_text : NetAddr → List ℕ
node_text n = if n.prefix == 32 then dotted n.addr else slashed n

-- a metric that may be absent
unfoldable pub metric_text : Option Metric → List ℕ
metric_text None = codes "none"
metric_text (Some m) = decimal (metric_value m)

-- a choice
unfoldable pub choice_text : Bool → List ℕ
choice_text choice = cond choice (codes "yes") (codes "no")

-- the status of a link
unfoldable pub status_text : LinkState → List ℕ
status_text Is_pending = codes "pending"
status_text Is_lost = codes "lost"
status_text Is_symmetric = codes "symmetric"
status_text Is_heard = codes "heard"

-- whether a neighbour is symmetric; one that isn't is heard
unfoldable pub nearness_text : Bool → List ℕ
nearness_text symmetric = cond symmetric (codes "symmetric") (codes "heard")

-- addresses, each behind a space; `none` where there are none
abbrev pub spaced : List Addr4 → List ℕ
spaced addrs = flat_map (λ a. codes " " ++ dotted a) addrs

unfoldable pub relays_text : List Addr4 → List ℕ
relays_text [] = codes " none"
relays_text (a ∷ more) = spaced (a ∷ more)

-- the name of an interface; nothing where there is none
abbrev pub name_of_face : Option Interface → List ℕ
name_of_face None = []
name_of_face (Some face) = face.name

-- the name of the interface of that number
unfoldable pub face_name : List Interface → ℕ → List ℕ
face_name faces i = name_of_face (slice_get faces i)

-- the interfaces of a router; none where there is none
abbrev pub faces_of_router : Option RouterSettings → List Interface
faces_of_router None = []
faces_of_router (Some r) = r.interfaces

-- the interfaces of the router of that number
unfoldable pub faces_of : List RouterSettings → ℕ → List Interface
faces_of routers x = faces_of_router (slice_get routers x)
