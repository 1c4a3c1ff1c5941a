-- The rows that a router advertises in its TCs.
use Rattle.std.specs.Prelude.{◌≡◌, ℕ, ◌+◌, ◌-◌, ◌<◌, ◌≤◌, ◌⊎◌, ◌≢◌, ◌↔◌, List, [], Contains, Some, None, IsTrue, IsFalse, length, slice_get}
use Rattle.std.specs.List.{AllPairs, flat_map}
use Rattle.mesh_atoms.specs.declared.addr.Addr4.{Addr4}
use Rattle.mesh_atoms.specs.declared.addr.NetAddr.{NetAddr}
use Rattle.mesh_atoms.specs.declared.codes.metric.Metric.{Metric}
use Rattle.mesh_atoms.specs.declared.tuples.Neighbour.{Neighbour}
use Rattle.mesh_atoms.specs.declared.settings.Attached4.{Attached4}
use Rattle.mesh_atoms.specs.declared.tc.TcRow.{TcRow}
use Rattle.mesh_atoms.specs.Base.{host}
use Rattle.mesh_atoms.specs.Codes.Codes.{metric_value}
use Rattle.mesh_atoms.specs.Nodes.{IsBefore}
use Rattle.mesh_atoms.specs.State.{State, HasSymmetric}

-- By who gives what: that a neighbour with originator o gives the address a, at the metric m to it

-- there is a row of the address, at the least metric at which it is given
pub record AdvertisesBy (gives : Addr4 → Addr4 → Metric → Type 0) (a : Addr4) (m : Metric) : Type 0 where
  pub giver : Addr4
  pub given : gives a giver m
  pub least : (o : Addr4) (n : Metric) → gives a o n → metric_value m ≤ metric_value n

-- the row is an originator's: a neighbour with this originator gives it
abbrev pub AdvertisesOriginatorBy : (Addr4 → Addr4 → Metric → Type 0) → Addr4 → Type 0
AdvertisesOriginatorBy gives a = (m : Metric) × gives a a m

-- there is a row of the attached network, which is no address that has a row
pub record AdvertisesNetworkBy (gives : Addr4 → Addr4 → Metric → Type 0) (networks : List Attached4) (net : NetAddr) (distance : ℕ)
    (m : Metric) : Type 0 where
  pub attached : Attached4
  pub stands : Contains networks attached
  pub at_net : attached.net ≡ net
  pub at_distance : attached.distance ≡ distance
  pub at_metric : attached.metric ≡ m
  pub no_address : (a : Addr4) (n : Metric) → AdvertisesBy gives a n → net ≢ host a

-- a row: of an address, routable and maybe an originator's; or of an attached network, with its distance (RFC 7181, section 16.1)
pub data IsRowBy (gives : Addr4 → Addr4 → Metric → Type 0) (networks : List Attached4) : TcRow → Type 0 where
  Of_address : {row : TcRow} (a : Addr4) (m : Metric) → row.dest ≡ host a → (IsTrue row.origin ↔ AdvertisesOriginatorBy gives a) →
      IsTrue row.routable → row.gateway ≡ None → row.metric ≡ Some m → AdvertisesBy gives a m → IsRowBy gives networks row
  Of_network : {row : TcRow} (distance : ℕ) (m : Metric) → IsFalse row.origin → IsFalse row.routable →
      row.gateway ≡ Some distance → row.metric ≡ Some m → AdvertisesNetworkBy gives networks row.dest distance m → IsRowBy gives networks row

-- exactly these rows, in ascending order
pub record AreRowsBy (gives : Addr4 → Addr4 → Metric → Type 0) (networks : List Attached4) (rows : List TcRow) : Type 0 where
  pub exactly : (row : TcRow) → Contains rows row ↔ IsRowBy gives networks row
  pub ordered : AllPairs (λ r t. IsBefore r.dest t.dest) rows

-- By a router's neighbours and the networks that it attaches

-- a symmetric neighbour that has chosen this router as a routing relay gives its addresses and its originator, at the metric
-- to it (RFC 7181, section 16.1)
pub record GivesAsSelector (s : State) (a o : Addr4) (m : Metric) : Type 0 where
  pub neighbour : Neighbour
  pub symmetric : HasSymmetric s o neighbour
  pub selects : IsTrue neighbour.selector
  pub metric : neighbour.metric_out ≡ Some m
  pub address : Contains neighbour.addrs a ⊎ (a ≡ o)

-- the router advertises the address at that metric
abbrev pub Advertises : State → Addr4 → Metric → Type 0
Advertises s = AdvertisesBy (GivesAsSelector s)

-- it advertises the address as an originator's
abbrev pub AdvertisesOriginator : State → Addr4 → Type 0
AdvertisesOriginator s = AdvertisesOriginatorBy (GivesAsSelector s)

-- it advertises the attached network
abbrev pub AdvertisesNetwork : State → NetAddr → ℕ → Metric → Type 0
AdvertisesNetwork s = AdvertisesNetworkBy (GivesAsSelector s) s.settings.attached

-- a row that it advertises
abbrev pub IsTcRow : State → TcRow → Type 0
IsTcRow s = IsRowBy (GivesAsSelector s) s.settings.attached

-- the rows that it advertises now, in ascending order
abbrev pub AreTcRows : State → List TcRow → Type 0
AreTcRows s = AreRowsBy (GivesAsSelector s) s.settings.attached

-- TCs in parts

-- the rows cut into parts, in their order: each has so many, but for the last one, which may have fewer; where there are no rows, one
-- part without rows (RFC 7181, section 16.1)
pub record AreParts (most : ℕ) (rows : List TcRow) (parts : List (List TcRow)) : Type 0 where
  pub some : 0 < length parts
  pub whole : flat_map (λ part. part) parts ≡ rows
  pub full : (i : ℕ) (part : List TcRow) → slice_get parts i ≡ Some part → i + 1 < length parts → length part ≡ most
  pub last : (part : List TcRow) → slice_get parts (length parts - 1) ≡ Some part → length part ≤ most
  pub no_more : (part : List TcRow) → slice_get parts (length parts - 1) ≡ Some part → part ≡ [] → rows ≡ []
