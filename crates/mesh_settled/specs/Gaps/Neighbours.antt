-- What the tests of neighbours find.
use Rattle.std.specs.Prelude.{◌≡◌, ◌↔◌, ◌<◌, ℕ, List, Option, Some, None, true, cond, IsTrue, slice_get, length, option_map}
use Rattle.std.specs.Borrow.{Bor}
use Rattle.mesh_atoms.specs.declared.addr.Addr4.{Addr4}
use Rattle.mesh_atoms.specs.declared.codes.metric.Metric.{Metric}
use Rattle.mesh_atoms.specs.declared.tuples.Neighbour.{Neighbour}
use Rattle.mesh_atoms.specs.Hello.{Says, Routing}
use Rattle.mesh_atoms.specs.Radio.{IsMetric}
use Rattle.mesh_atoms.specs.Settled.{At}
use Rattle.mesh_atoms.specs.State.{State, HasAddress, IsOriginator}
use Rattle.mesh_atoms.specs.declared.gap.GapKey.{GapKey}
use Rattle.mesh_atoms.specs.declared.gap.GapKey.TheVariants.{Neighbour as Of_neighbour}
use Rattle.mesh_settled.specs.declared.gaps.neighbours.GivenNeighbour.{GivenNeighbour}
use Rattle.mesh_settled.specs.Gaps.Fields.{Field, neighbour_fields}
use Rattle.mesh_settled.specs.Gaps.Gaps.{Look}
use Rattle.mesh_settled.specs.Gaps.Joints.{all_addresses}

-- the fields of the neighbour that the router holds, if it holds one
abbrev pub held_fields : Option (Bor Neighbour) → Option (List Field)
held_fields held = option_map (λ n. neighbour_fields n.now) held

-- the neighbour that a look-up finds, if it is symmetric
abbrev pub symmetric_fields : Option (Neighbour × ℕ) → Option (List Field)
symmetric_fields None = None
symmetric_fields (Some e) = cond e.0.symmetric (Some (neighbour_fields e.0)) None

-- the neighbour that an adjacent router is: symmetric, with all its addresses and both metrics
abbrev pub given_tuple : GivenNeighbour → Neighbour
given_tuple g = record {
  addrs = all_addresses g.settings.now.interfaces;
  symmetric = true;
  metric_in = Some g.metric_in;
  metric_out = Some g.metric_out;
  willing = g.settings.now.willing;
  selector = g.selector;
}

-- its fields, if there is one
abbrev pub given_fields : Option GivenNeighbour → Option (List Field)
given_fields given = option_map (λ g. neighbour_fields (given_tuple g)) given

-- the neighbour that router y, in state q, is
pub record IsNear (l : Look) (y : ℕ) (q : State) (g : GivenNeighbour) : Type 0 where
  pub settings : g.settings.now ≡ q.settings
  pub there : IsMetric l.s l.x y g.metric_out
  pub back : IsMetric l.s y l.x g.metric_in
  pub selector : IsTrue g.selector ↔ ((a : Addr4) × HasAddress l.p.settings a × Says q 0 l.now a Routing)

-- or it isn't adjacent
abbrev pub IsGivenNear : Look → ℕ → State → Option GivenNeighbour → Type 0
IsGivenNear l y q None = (there back : Metric) → IsMetric l.s l.x y there → IsMetric l.s y l.x back → ⊥
IsGivenNear l y q (Some g) = IsNear l y q g

-- router y is the neighbour with that originator; or it isn't
abbrev pub IsGivenAt : Look → Addr4 → ℕ → Option GivenNeighbour → Type 0
IsGivenAt l o y None =
    (q : State) (there back : Metric) → At l.states y q → IsOriginator q.settings o → IsMetric l.s l.x y there →
    IsMetric l.s y l.x back → ⊥
IsGivenAt l o y (Some g) = (q : State) × At l.states y q × IsOriginator q.settings o × IsNear l y q g

-- Which keys are looked at

-- a key of a neighbour
abbrev pub IsNeighbourKey : GapKey → Type 0
IsNeighbourKey k = (o : Addr4) × (k ≡ Of_neighbour o)

-- the key of the neighbour at a place
abbrev pub IsHeldAt : State → ℕ → GapKey → Type 0
IsHeldAt p place k =
    (o : Addr4) × (e : Neighbour × ℕ) × (slice_get p.bases.neighbourhood.neighbours place ≡ Some (o, e)) × (k ≡ Of_neighbour o)

-- the key of some neighbour of the router
abbrev pub IsNeighbourHeld : State → GapKey → Type 0
IsNeighbourHeld p k = (place : ℕ) × (place < length p.bases.neighbourhood.neighbours) × IsHeldAt p place k

-- the key with the originator of router y
abbrev pub IsOriginatorOf : List State → ℕ → GapKey → Type 0
IsOriginatorOf states y k = (q : State) × At states y q × (o : Addr4) × IsOriginator q.settings o × (k ≡ Of_neighbour o)

-- the key with the originator of some router before router n
abbrev pub IsOriginatorBelow : List State → ℕ → GapKey → Type 0
IsOriginatorBelow states n k = (y : ℕ) × (y < n) × IsOriginatorOf states y k
