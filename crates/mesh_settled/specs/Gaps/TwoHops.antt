-- What the tests of 2-hop tuples find.
use Rattle.std.specs.Prelude.{◌≡◌, ◌<◌, ℕ, List, slice_get, length, Option, Some, None, Bool, cond, not, ◌&&◌}
use Rattle.mesh_atoms.specs.declared.addr.Addr4.{Addr4}
use Rattle.mesh_atoms.specs.declared.graphs.Pair.{Pair}
use Rattle.mesh_atoms.specs.declared.codes.metric.Metric.{Metric}
use Rattle.mesh_atoms.specs.declared.settings.Scenario.{Scenario}
use Rattle.mesh_atoms.specs.declared.tuples.Neighbour.{Neighbour}
use Rattle.mesh_atoms.specs.declared.tuples.TwoHop.{TwoHop}
use Rattle.mesh_atoms.specs.declared.tuples.TwoHopKey.{TwoHopKey}
use Rattle.mesh_atoms.specs.Base.{base_of}
use Rattle.mesh_atoms.specs.Radio.{Joins}
use Rattle.mesh_atoms.specs.Settled.{At, IsLeastAddress}
use Rattle.mesh_atoms.specs.State.{State}
use Rattle.mesh_atoms.specs.declared.gap.GapKey.{GapKey}
use Rattle.mesh_atoms.specs.declared.gap.GapKey.TheVariants.{TwoHop as Of_two_hop}
use Rattle.mesh_machine.specs.declared.said.Said.{Said}
use Rattle.mesh_settled.specs.Gaps.Joints.{IsLeastOf}

-- the 2-hop tuple of an address of which that is said, if it is shown SYMMETRIC and is neither router's own
abbrev pub if_far : Said → Bool → Bool → Option TwoHop
if_far said mine theirs =
    cond (said.symmetric && (not mine && not theirs))
    (Some (record { metric_in = said.metric_in; metric_out = said.metric_out })) None

-- interface i of router x is joined with interface j of router y, which is in state q and has that least address there
pub record IsJoinedPeer (s : Scenario) (states : List State) (x i y j : ℕ) (q : State) (a : Addr4) : Type 0 where
  pub at : At states y q
  pub there : Metric
  pub back : Metric
  pub joins : Joins s x i y j there back
  pub least : IsLeastAddress q.settings j a

-- Which keys are looked at

-- a key of a 2-hop tuple
abbrev pub IsTwoHopKey : GapKey → Type 0
IsTwoHopKey k = (i : ℕ) × (key : TwoHopKey) × (k ≡ Of_two_hop i key)

-- the key of interface i for the address `a`, by the link with the address `link`
abbrev pub key_by : ℕ → Addr4 → Addr4 → GapKey
key_by i link a = Of_two_hop i (record { link = record { addr = link }; addr = a })

-- a key of interface i by the link with that address
abbrev pub IsKeyBy : ℕ → Addr4 → GapKey → Type 0
IsKeyBy i link k = (a : Addr4) × (k ≡ key_by i link a)

-- one by the link to the end of a pair from router x
abbrev pub IsKeyOf : List State → ℕ → Pair → GapKey → Type 0
IsKeyOf states x pair k =
    (pair.from ≡ x) × (link : Addr4) × IsLeastOf states pair.to pair.to_iface link × IsKeyBy pair.from_iface link k

-- the key of the 2-hop tuple at a place, if it is by that link
abbrev pub IsTwoHopAt : State → ℕ → Addr4 → ℕ → GapKey → Type 0
IsTwoHopAt p i link place k =
    (a : Addr4) × (e : TwoHop × ℕ)
    × (slice_get (base_of p.bases.neighbourhood.two_hops i) place ≡ Some (record { link = record { addr = link }; addr = a }, e))
    × (k ≡ key_by i link a)

-- the key of some 2-hop tuple by that link which the router holds on interface i
abbrev pub IsHeldBy : State → ℕ → Addr4 → GapKey → Type 0
IsHeldBy p i link k = (place : ℕ) × (place < length (base_of p.bases.neighbourhood.two_hops i)) × IsTwoHopAt p i link place k

-- the key of that link and the address at a place of a list
abbrev pub IsKeyIn : ℕ → Addr4 → List Addr4 → ℕ → GapKey → Type 0
IsKeyIn i link addrs place k = (a : Addr4) × (slice_get addrs place ≡ Some a) × (k ≡ key_by i link a)

-- the key of that link and some address of the list
abbrev pub IsGivenIn : ℕ → Addr4 → List Addr4 → GapKey → Type 0
IsGivenIn i link addrs k = (n : ℕ) × (n < length addrs) × IsKeyIn i link addrs n k

-- and an address of the neighbour at a place
abbrev pub IsKeyNear : ℕ → Addr4 → State → ℕ → GapKey → Type 0
IsKeyNear i link q place k =
    (o : Addr4) × (e : Neighbour × ℕ) × (slice_get q.bases.neighbourhood.neighbours place ≡ Some (o, e))
    × IsGivenIn i link e.0.addrs k

-- and some address of some neighbour of the router in state q
abbrev pub IsGivenBy : ℕ → Addr4 → State → GapKey → Type 0
IsGivenBy i link q k = (place : ℕ) × (place < length q.bases.neighbourhood.neighbours) × IsKeyNear i link q place k

-- and by the pair at a place
abbrev pub IsKeyOfAt : List State → ℕ → List Pair → ℕ → GapKey → Type 0
IsKeyOfAt states x pairs place k = (pair : Pair) × (slice_get pairs place ≡ Some pair) × IsKeyOf states x pair k

-- and by some pair
abbrev pub IsKeyOfSome : List State → ℕ → List Pair → GapKey → Type 0
IsKeyOfSome states x pairs k = (place : ℕ) × (place < length pairs) × IsKeyOfAt states x pairs place k
