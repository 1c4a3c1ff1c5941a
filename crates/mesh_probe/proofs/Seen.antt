-- A scenario with its routers' states, as one message sees it.
use Rattle.mesh_probe.proofs.Common.{ℕ, ◌+◌, ◌≤◌, List, Option, Some, None, slice_get, length, Bool, Addr4, Metric, RouterSettings, Scenario, base_of, Joins, At, State, SelectorOf, hearers_of, IsInterfaceSender}
use Rattle.mesh_probe.proofs.Wave.{Net}

-- the number of interfaces
abbrev pub faces_in : Option RouterSettings → ℕ
faces_in None = 0
faces_in (Some r) = length r.interfaces

-- what router w holds on interface j of the frames of interface i of router x
abbrev pub HoldsFlag : Scenario → List State → ℕ → ℕ → ℕ → ℕ → ℕ → Option Bool → Type 0
HoldsFlag s states now x i w j flag =
    (q : State) × (a : Addr4) × At states w q × IsInterfaceSender s x i a × SelectorOf (base_of q.bases.neighbourhood.links j) now a flag

-- two interfaces are joined
abbrev pub AreJoined : Scenario → ℕ → ℕ → ℕ → ℕ → Type 0
AreJoined s x i w j = (there back : Metric) × Joins s x i w j there back

-- the network, where a message has this hop limit
abbrev pub net_of : Scenario → List State → ℕ → ℕ → Net
net_of s states now limit = record {
  count = length s.routers;
  faces = λ x. faces_in (slice_get s.routers x);
  hearers = hearers_of s.arcs;
  Link = AreJoined s;
  Flag = HoldsFlag s states now;
  More = λ h. h + 2 ≤ limit;
}
