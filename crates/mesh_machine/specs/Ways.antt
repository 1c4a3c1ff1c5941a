-- The arcs of a scenario by the interfaces that they leave, and their ends.
use Rattle.std.specs.Prelude.{◌≡◌, ◌<◌, ℕ, List, Some, slice_get, length}
use Rattle.mesh_atoms.specs.declared.settings.RadioArc.{RadioArc}
use Rattle.mesh_atoms.specs.declared.settings.RouterSettings.{RouterSettings}
use Rattle.mesh_machine.specs.Traffic.{leaving}

-- the arcs that leave each of so many interfaces of router x
pub record AreWaysOf (arcs : List RadioArc) (x interfaces : ℕ) (ways : List (List (ℕ × RadioArc))) : Type 0 where
  pub count : length ways ≡ interfaces
  pub leave : (i : ℕ) (list : List (ℕ × RadioArc)) → slice_get ways i ≡ Some list → list ≡ leaving arcs x i

-- the arcs that leave each interface of the first routers, so many
pub record AreArcsOut (arcs : List RadioArc) (routers : List RouterSettings) (count : ℕ) (ways : List (List (List (ℕ × RadioArc)))) : Type 0 where
  pub count_is : length ways ≡ count
  pub leave : (x : ℕ) (list : List (List (ℕ × RadioArc))) → slice_get ways x ≡ Some list → (router : RouterSettings) →
      slice_get routers x ≡ Some router → AreWaysOf arcs x (length router.interfaces) list

-- an arc leaves an interface of a router
pub record LeavesInterface (routers : List RouterSettings) (arc : RadioArc) : Type 0 where
  pub router : RouterSettings
  pub stands : slice_get routers arc.from ≡ Some router
  pub iface : arc.from_iface < length router.interfaces

-- it goes to an interface of a router
pub record EntersInterface (routers : List RouterSettings) (arc : RadioArc) : Type 0 where
  pub router : RouterSettings
  pub stands : slice_get routers arc.to ≡ Some router
  pub iface : arc.to_iface < length router.interfaces
