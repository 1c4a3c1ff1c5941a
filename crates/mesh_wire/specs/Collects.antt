-- What is kept of the networks of a message.
use Rattle.std.specs.Prelude.{◌≡◌, ℕ, List, Contains, AllPairs, Some, None}
use Rattle.mesh_atoms.specs.declared.addr.NetAddr.{NetAddr}
use Rattle.mesh_atoms.specs.Nodes.{IsBefore}
use Rattle.mesh_wire.specs.declared.collect.AddressParts.{AddressParts}
use Rattle.mesh_wire.specs.declared.parts.RowParts.{RowParts}
use Rattle.mesh_wire.specs.Entries.{Entry, collected}

-- a network, and the place of an address in it
abbrev pub PlacedNetwork : Type 0
PlacedNetwork = NetAddr × ℕ

-- what is kept of each network of the entries, in ascending order
pub record AreCollected (entries : List Entry) (rows : List AddressParts) : Type 0 where
  pub ascending : AllPairs (λ (a b : AddressParts). IsBefore a.net b.net) rows
  pub each : (told : AddressParts) → Contains rows told → collected told.net entries None ≡ Some told.parts
  pub all : (net : NetAddr) (parts : RowParts) → collected net entries None ≡ Some parts →
      (told : AddressParts) × Contains rows told × (told.net ≡ net)
