-- The interfaces that the interfaces of a router are joined with.
use Rattle.std.specs.Prelude.{◌≡◌, ℕ, List, Contains}
use Rattle.std.specs.List.{flat_map}
use Rattle.mesh_atoms.specs.declared.addr.Addr4.{Addr4}
use Rattle.mesh_atoms.specs.declared.graphs.Pair.{Pair}
use Rattle.mesh_atoms.specs.declared.codes.metric.Metric.{Metric}
use Rattle.mesh_atoms.specs.declared.settings.Interface.{Interface}
use Rattle.mesh_atoms.specs.declared.settings.Scenario.{Scenario}
use Rattle.mesh_atoms.specs.Radio.{Joins}
use Rattle.mesh_atoms.specs.Settled.{At, IsLeastAddress}
use Rattle.mesh_atoms.specs.State.{State}
use Rattle.mesh_settled.specs.declared.gaps.joints.Joint.{Joint}

-- the addresses of all interfaces
abbrev pub all_addresses : List Interface → List Addr4
all_addresses faces = flat_map (λ (f : Interface). f.addrs) faces

-- a pair leads back at that metric
abbrev pub IsBack : List Pair → Pair → Metric → Type 0
IsBack pairs pair m =
    Contains pairs
    (record { from = pair.to; from_iface = pair.to_iface; to = pair.from; to_iface = pair.from_iface; metric = m })

-- the address is the least of interface j of router y
abbrev pub IsLeastOf : List State → ℕ → ℕ → Addr4 → Type 0
IsLeastOf states y j a = (q : State) × At states y q × IsLeastAddress q.settings j a

-- interface i of router x is joined with it, and it has that least address
abbrev pub IsJointWith : Scenario → List State → ℕ → ℕ → Addr4 → Joint → Type 0
IsJointWith s states x i a joint =
    Joins s x i joint.to joint.iface joint.there joint.back × IsLeastOf states joint.to joint.iface a

-- the pair joins interface i of router x with it, and it has that least address
pub record IsJointBy (states : List State) (pairs : List Pair) (x i : ℕ) (a : Addr4) (pair : Pair) (joint : Joint) : Type 0 where
  pub from : pair.from ≡ x
  pub from_iface : pair.from_iface ≡ i
  pub to : joint.to ≡ pair.to
  pub iface : joint.iface ≡ pair.to_iface
  pub there : joint.there ≡ pair.metric
  pub back : IsBack pairs pair joint.back
  pub least : IsLeastOf states pair.to pair.to_iface a

-- some element of the list gives it
abbrev pub IsOfSome : {A B : Type 0} → (A → B → Type 0) → List A → B → Type 0
IsOfSome {A} P list r = (e : A) × Contains list e × P e r
