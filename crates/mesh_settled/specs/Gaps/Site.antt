-- A router of a network at a moment, by the state of each router.
use Rattle.std.specs.Prelude.{List, map}
use Rattle.mesh_atoms.specs.Settled.{At}
use Rattle.mesh_atoms.specs.State.{State}
use Rattle.mesh_settled.specs.declared.gaps.site.JoinedPeer.{JoinedPeer}
use Rattle.mesh_settled.specs.declared.gaps.site.RouterAt.{RouterAt}
use Rattle.mesh_settled.specs.Gaps.Gaps.{Look, look}
use Rattle.mesh_settled.specs.Gaps.Network.{IsNetwork}
use Rattle.mesh_settled.specs.Gaps.TwoHops.{IsJoinedPeer}

-- the states of all routers, in order of their numbers
abbrev pub states : {R : Type 0} → (R → State) → RouterAt R → List State
states state site = map state site.routers.now

-- the router of the site, as gaps are looked for
abbrev pub seen : {R : Type 0} → (R → State) → RouterAt R → Look
seen state site = look site.scenario.now (states state site) site.moment site.x (state site.router.now)

-- the routers are a network's, and router x is the one given
pub record IsSite {R : Type 0} (state : R → State) (site : RouterAt R) : Type 0 where
  pub network : IsNetwork site.scenario.now site.graph.now (states state site) site.moment
  pub at : At (states state site) site.x (state site.router.now)

-- the end is one of router x
abbrev pub IsEndAt : {R : Type 0} → (R → State) → RouterAt R → JoinedPeer R → Type 0
IsEndAt state site end = IsJoinedPeer site.scenario.now (states state site) site.x end.i end.y end.j (state end.other.now) end.link
