-- The names of routers.
use Rattle.std.specs.Prelude.{ℕ, List, [], Option, None, Some, slice_get}
use Rattle.mesh_atoms.specs.declared.settings.RouterSettings.{RouterSettings}

-- the name of a router; nothing where there is none
abbrev pub name_of_router : Option RouterSettings → List ℕ
name_of_router None = []
name_of_router (Some r) = r.name

-- the name of the router of that number
unfoldable pub router_name : List RouterSettings → ℕ → List ℕ
router_name routers x = name_of_router (slice_get routers x)
