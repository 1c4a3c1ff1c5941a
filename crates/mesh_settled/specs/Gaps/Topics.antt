-- What the tests of topology find, of any kind of tuple.
use Rattle.std.specs.Prelude.{◌≡◌, ℕ, ◌<◌, List, Option, Some, None, Bool, cond, not, ◌&&◌, slice_get, length, option_map}
use Rattle.mesh_atoms.specs.declared.addr.Addr4.{Addr4}
use Rattle.mesh_atoms.specs.declared.addr.NetAddr.{NetAddr}
use Rattle.mesh_atoms.specs.declared.codes.metric.Metric.{Metric}
use Rattle.mesh_atoms.specs.declared.tc.TcRow.{TcRow}
use Rattle.mesh_atoms.specs.declared.tuples.AddressTuple.{AddressTuple}
use Rattle.mesh_atoms.specs.declared.tuples.NetworkTuple.{NetworkTuple}
use Rattle.mesh_atoms.specs.declared.tuples.RouterTuple.{RouterTuple}
use Rattle.mesh_atoms.specs.Base.{host, net_eq, find, router_eq, address_eq, network_eq}
use Rattle.mesh_atoms.specs.Settled.{At, IsPeer, IsRouterBy, IsAddressBy, IsNetworkBy}
use Rattle.mesh_atoms.specs.State.{State, IsOriginator}
use Rattle.mesh_atoms.specs.declared.gap.GapKey.{GapKey}
use Rattle.mesh_atoms.specs.declared.gap.GapKey.TheVariants.{Router as Of_router, Address as Of_address, Network as Of_network}
use Rattle.mesh_settled.specs.declared.gaps.topics.TopologyKind.{TopologyKind}
use Rattle.mesh_settled.specs.declared.gaps.topics.TopologyKind.TheVariants.{Routers, Addresses, Networks}
use Rattle.mesh_settled.specs.declared.gaps.topics.Claim.{Claim}
use Rattle.mesh_topo.specs.TcSets.Tuples.{router_says, address_says, network_says}
use Rattle.mesh_settled.specs.Gaps.Fields.{Field, topology_fields}
use Rattle.mesh_settled.specs.Gaps.Gaps.{Look}

-- What a tuple says

-- the number, and the distance, which a network alone has, with the metric
abbrev pub claim : ℕ → Option ℕ × Metric → Claim
claim ansn says = record { ansn = ansn; metric = says.1; distance = says.0 }

-- its fields, which are those of the tuple
abbrev pub claim_fields : Claim → List Field
claim_fields t = topology_fields t.ansn t.metric t.distance

-- Keys

-- the key of that kind from an originator to a destination, whose prefix counts for networks alone
abbrev pub key_at : TopologyKind → Addr4 → NetAddr → GapKey
key_at Routers from net = Of_router from net.addr
key_at Addresses from net = Of_address from net.addr
key_at Networks from net = Of_network from net

-- The two sides

-- the TC of a router in state q says it
abbrev pub IsClaimBy : State → TopologyKind → Addr4 → NetAddr → Claim → Type 0
IsClaimBy q Routers from net t = (u : RouterTuple) × IsRouterBy q (record { from = from; to = net.addr }) u × (t ≡ claim u.ansn (router_says u))
IsClaimBy q Addresses from net t =
    (u : AddressTuple) × IsAddressBy q (record { from = from; addr = net.addr }) u × (t ≡ claim u.ansn (address_says u))
IsClaimBy q Networks from net t = (u : NetworkTuple) × IsNetworkBy q (record { from = from; net = net }) u × (t ≡ claim u.ansn (network_says u))

-- the TC of another router which is joined with it says one, with these fields
abbrev pub IsPresentClaim : Look → TopologyKind → Addr4 → NetAddr → List Field → Type 0
IsPresentClaim l topic from net gs =
    (w : ℕ) × (q : State) × (t : Claim) × IsPeer l.s l.states l.x w q × IsClaimBy q topic from net t × (gs ≡ claim_fields t)

-- what the router's own tuple says
abbrev pub held_claim : State → TopologyKind → Addr4 → NetAddr → Option Claim
held_claim p Routers from net =
    option_map (λ e. claim e.0.ansn (router_says e.0)) (find router_eq p.bases.topology.routers (record { from = from; to = net.addr }))
held_claim p Addresses from net =
    option_map (λ e. claim e.0.ansn (address_says e.0)) (find address_eq p.bases.topology.addresses (record { from = from; addr = net.addr }))
held_claim p Networks from net =
    option_map (λ e. claim e.0.ansn (network_says e.0)) (find network_eq p.bases.topology.networks (record { from = from; net = net }))

-- Rows

-- the destination of a row that gives a tuple of that kind: where it is an address, its prefix is 32
abbrev pub dest_of : TopologyKind → NetAddr → NetAddr
dest_of Routers net = host net.addr
dest_of Addresses net = host net.addr
dest_of Networks net = net

-- the row gives a tuple of that kind and destination
abbrev pub is_row_of : TopologyKind → NetAddr → TcRow → Bool
is_row_of Routers net row = row.origin && net_eq row.dest (host net.addr)
is_row_of Addresses net row = row.routable && net_eq row.dest (host net.addr)
is_row_of Networks net row = not row.routable && net_eq row.dest net

-- what a row says in a TC of that ANSN; nothing where it has no metric
abbrev pub claim_by : ℕ → TcRow → Option Claim
claim_by ansn row = option_map (λ m. claim ansn (row.gateway, m)) row.metric

-- the same, where the row gives a tuple of that kind and destination
abbrev pub claim_if : TopologyKind → NetAddr → ℕ → TcRow → Option Claim
claim_if topic net ansn row = cond (is_row_of topic net row) (claim_by ansn row) None

-- Which keys are looked at

-- a key of that kind
abbrev pub IsTopicKey : TopologyKind → GapKey → Type 0
IsTopicKey topic k = (from : Addr4) × (net : NetAddr) × (k ≡ key_at topic from net)

-- the number of tuples of that kind that the router holds
abbrev pub held_count : State → TopologyKind → ℕ
held_count p Routers = length p.bases.topology.routers
held_count p Addresses = length p.bases.topology.addresses
held_count p Networks = length p.bases.topology.networks

-- the originator and the destination of the tuple at a place
abbrev pub ends_at : State → TopologyKind → ℕ → Option (Addr4 × NetAddr)
ends_at p Routers place = option_map (λ e. (e.0.from, host e.0.to)) (slice_get p.bases.topology.routers place)
ends_at p Addresses place = option_map (λ e. (e.0.from, host e.0.addr)) (slice_get p.bases.topology.addresses place)
ends_at p Networks place = option_map (λ e. (e.0.from, e.0.net)) (slice_get p.bases.topology.networks place)

-- the tuple at a place has the key
abbrev pub IsHeldAt : State → TopologyKind → ℕ → GapKey → Type 0
IsHeldAt p topic place k = (from : Addr4) × (net : NetAddr) × (ends_at p topic place ≡ Some (from, net)) × (k ≡ key_at topic from net)

-- the key of some tuple of that kind which the router holds
abbrev pub IsTupleHeld : State → TopologyKind → GapKey → Type 0
IsTupleHeld p topic k = (place : ℕ) × (place < held_count p topic) × IsHeldAt p topic place k

-- the key from that originator to the destination of the row at a place
abbrev pub IsToRow : TopologyKind → Addr4 → List TcRow → ℕ → GapKey → Type 0
IsToRow topic from rows n k = (row : TcRow) × (slice_get rows n ≡ Some row) × (k ≡ key_at topic from row.dest)

-- the key from that originator to the destination of some row
abbrev pub IsToRows : TopologyKind → Addr4 → List TcRow → GapKey → Type 0
IsToRows topic from rows k = (n : ℕ) × (n < length rows) × IsToRow topic from rows n k

-- one of the keys that the rows of router w give
abbrev pub IsByRows : List State → TopologyKind → ℕ → GapKey → Type 0
IsByRows states topic w k =
    (q : State) × At states w q × (from : Addr4) × IsOriginator q.settings from × IsToRows topic from q.rows k

-- one of the keys that the rows of some router before router n give
abbrev pub IsByAllRows : List State → TopologyKind → ℕ → GapKey → Type 0
IsByAllRows states topic n k = (w : ℕ) × (w < n) × IsByRows states topic w k
