-- What a tuple says, field by field, and where two tuples of a key differ.
use Rattle.std.specs.Prelude.{◌≡◌, ◌≢◌, ℕ, ◌+◌, ◌*◌, ◌≤◌, ◌⊎◌, ◌↔◌, List, [], ◌∷◌, Contains, Option, Some, None, Bool, cond}
use Rattle.mesh_atoms.specs.declared.addr.Addr4.{Addr4}
use Rattle.mesh_atoms.specs.declared.codes.metric.Metric.{Metric}
use Rattle.mesh_atoms.specs.declared.tuples.Link.{Link}
use Rattle.mesh_atoms.specs.declared.tuples.Neighbour.{Neighbour}
use Rattle.mesh_atoms.specs.declared.tuples.TwoHop.{TwoHop}
use Rattle.mesh_atoms.specs.declared.tuples.RouterTuple.{RouterTuple}
use Rattle.mesh_atoms.specs.declared.tuples.AddressTuple.{AddressTuple}
use Rattle.mesh_atoms.specs.declared.tuples.NetworkTuple.{NetworkTuple}
use Rattle.mesh_atoms.specs.Codes.Codes.{metric_value}

-- a field: addresses, whose order means nothing; or a number, where there is one
pub data Field : Type 0 where
  Addresses : List Addr4 → Field
  Number : Option ℕ → Field

-- the cost that a metric stands for, where it is known
abbrev pub known_cost : Option Metric → Option ℕ
known_cost None = None
known_cost (Some m) = Some (metric_value m)

-- a metric as a field: the cost that it stands for
abbrev pub cost_field : Metric → Field
cost_field m = Number (Some (metric_value m))

-- a flag as a field: 1 where it is set, else 0
abbrev pub flag_field : Bool → Field
flag_field b = Number (Some (cond b 1 0))

-- The fields of a tuple, in the order in which they are counted

-- of a link: its addresses, the metric in, the metric out where it is known, and whether it is of a flooding MPR selector
abbrev pub link_fields : Link → List Field
link_fields t = Addresses t.addrs ∷ cost_field t.link_in ∷ Number (known_cost t.link_out) ∷ flag_field t.selector ∷ []

-- of a neighbour: its addresses, its willingness as MPR_WILLING has it, both metrics, and whether it is a routing MPR selector
abbrev pub neighbour_fields : Neighbour → List Field
neighbour_fields t =
    Addresses t.addrs ∷ Number (Some (16 * t.willing.flooding + t.willing.routing)) ∷ Number (known_cost t.metric_in)
    ∷ Number (known_cost t.metric_out) ∷ flag_field t.selector ∷ []

-- of a 2-hop tuple: the metrics in and out, each where it is known
abbrev pub two_hop_fields : TwoHop → List Field
two_hop_fields t = Number (known_cost t.metric_in) ∷ Number (known_cost t.metric_out) ∷ []

-- of topology; a distance is an attached network's alone
abbrev pub topology_fields : ℕ → Metric → Option ℕ → List Field
topology_fields ansn metric distance = Number (Some ansn) ∷ cost_field metric ∷ Number distance ∷ []

-- of a router topology tuple
abbrev pub router_fields : RouterTuple → List Field
router_fields t = topology_fields t.ansn t.metric None

-- of a routable address topology tuple
abbrev pub address_fields : AddressTuple → List Field
address_fields t = topology_fields t.ansn t.metric None

-- of an attached network tuple, whose distance is in hops
abbrev pub network_fields : NetworkTuple → List Field
network_fields t = topology_fields t.ansn t.metric (Some t.distance)

-- Where they differ

-- two fields say the same
abbrev pub SaySame : Field → Field → Type 0
SaySame (Addresses ms) (Addresses ns) = (a : Addr4) → Contains ms a ↔ Contains ns a
SaySame (Number m) (Number n) = m ≡ n
SaySame (Addresses ms) (Number n) = ⊥
SaySame (Number m) (Addresses ns) = ⊥

-- all fields of two tuples say the same
abbrev pub AllSame : List Field → List Field → Type 0
AllSame [] [] = Unit
AllSame (f ∷ fs) (g ∷ gs) = SaySame f g × AllSame fs gs
AllSame [] (g ∷ gs) = ⊥
AllSame (f ∷ fs) [] = ⊥

-- the first list alone has the address
abbrev pub HasAlone : List Addr4 → List Addr4 → Addr4 → Type 0
HasAlone ms ns a = Contains ms a × (Contains ns a → ⊥)

-- the least address that one of the two lists alone has is the number of that side, and the other side has none
pub record AreApart (ms ns : List Addr4) (m n : Option ℕ) : Type 0 where
  pub least : Addr4
  pub apart : (HasAlone ms ns least × (m ≡ Some least.0) × (n ≡ None)) ⊎ (HasAlone ns ms least × (m ≡ None) × (n ≡ Some least.0))
  pub none_less : (a : Addr4) → HasAlone ms ns a ⊎ HasAlone ns ms a → least.0 ≤ a.0

-- two fields differ; m and n are their numbers
abbrev pub Differ : Field → Field → Option ℕ → Option ℕ → Type 0
Differ (Addresses ms) (Addresses ns) m n = AreApart ms ns m n
Differ (Number v) (Number w) m n = (v ≢ w) × (m ≡ v) × (n ≡ w)
Differ (Addresses ms) (Number w) m n = ⊥
Differ (Number v) (Addresses ns) m n = ⊥

-- of two tuples, whose first fields are counted as `at`, this is the first field that differs
abbrev pub DifferFrom : ℕ → List Field → List Field → ℕ → Option ℕ → Option ℕ → Type 0
DifferFrom at (f ∷ fs) (g ∷ gs) field m n = ((field ≡ at) × Differ f g m n) ⊎ (SaySame f g × DifferFrom (at + 1) fs gs field m n)
DifferFrom at [] gs field m n = ⊥
DifferFrom at (f ∷ fs) [] field m n = ⊥
