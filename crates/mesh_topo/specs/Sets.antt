-- The four sets together.
use Rattle.std.specs.Prelude.{◌≡◌, ℕ, ◌≤◌, Some, length}
use Rattle.mesh_atoms.specs.declared.addr.Addr4.{Addr4}
use Rattle.mesh_atoms.specs.declared.tc.Tc.{Tc}
use Rattle.mesh_atoms.specs.declared.tuples.Advertiser.{Advertiser}
use Rattle.mesh_atoms.specs.declared.tuples.RouterKey.{RouterKey}
use Rattle.mesh_atoms.specs.declared.tuples.RouterTuple.{RouterTuple}
use Rattle.mesh_atoms.specs.declared.tuples.AddressKey.{AddressKey}
use Rattle.mesh_atoms.specs.declared.tuples.AddressTuple.{AddressTuple}
use Rattle.mesh_atoms.specs.declared.tuples.NetworkKey.{NetworkKey}
use Rattle.mesh_atoms.specs.declared.tuples.NetworkTuple.{NetworkTuple}
use Rattle.mesh_atoms.specs.declared.limits.TheConstants.{MOST_TUPLES}
use Rattle.mesh_atoms.specs.Base.{Base, IsFresh, find, addr_eq, router_eq, address_eq, network_eq}
use Rattle.mesh_atoms.specs.Codes.Codes.{Newer}
use Rattle.mesh_atoms.specs.State.{TopologyBase}

-- each of the four sets has at most 16,384 tuples
pub record AreFew (topology : TopologyBase) : Type 0 where
  pub advertisers : length topology.advertisers ≤ MOST_TUPLES
  pub routers : length topology.routers ≤ MOST_TUPLES
  pub addresses : length topology.addresses ≤ MOST_TUPLES
  pub networks : length topology.networks ≤ MOST_TUPLES

-- the number that is kept of the TC's originator is newer than the TC's (RFC 7181, section 16.3.3)
abbrev pub KeepsNewer : Base Addr4 Advertiser → Tc → ℕ → Type 0
KeepsNewer advertisers tc kept = (e : Advertiser × ℕ) × (find addr_eq advertisers tc.originator ≡ Some e) × (e.0.ansn ≡ kept) × Newer kept tc.ansn

-- nothing in the four sets is expired
pub record AreFresh (now : ℕ) (topology : TopologyBase) : Type 0 where
  pub advertisers : IsFresh addr_eq now topology.advertisers
  pub routers : IsFresh router_eq now topology.routers
  pub addresses : IsFresh address_eq now topology.addresses
  pub networks : IsFresh network_eq now topology.networks

-- the four sets together
abbrev pub sets_of : Base Addr4 Advertiser → Base RouterKey RouterTuple → Base AddressKey AddressTuple → Base NetworkKey NetworkTuple → TopologyBase
sets_of advertisers routers addresses networks = record { advertisers = advertisers; routers = routers; addresses = addresses; networks = networks }
