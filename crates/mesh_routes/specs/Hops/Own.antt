-- What is the router's own.
use Rattle.std.specs.Prelude.{◌≡◌, List, Contains}
use Rattle.mesh_atoms.specs.declared.addr.NetAddr.{NetAddr}
use Rattle.mesh_atoms.specs.declared.settings.Attached4.{Attached4}
use Rattle.mesh_atoms.specs.declared.settings.RouterSettings.{RouterSettings}
use Rattle.mesh_atoms.specs.NextHop.{HasAddressIn}

-- one of the attached networks
abbrev pub HasNetworkIn : List Attached4 → NetAddr → Type 0
HasNetworkIn attached node = (att : Attached4) × Contains attached att × (att.net ≡ node)

-- an own address, as a node
abbrev pub IsOwnAddress : RouterSettings → NetAddr → Type 0
IsOwnAddress settings node = (node.prefix ≡ 32) × HasAddressIn settings.interfaces node.addr

-- neither an own address nor an own attached network
abbrev pub IsOutsideOf : RouterSettings → NetAddr → Type 0
IsOutsideOf settings node = (IsOwnAddress settings node → ⊥) × (HasNetworkIn settings.attached node → ⊥)
