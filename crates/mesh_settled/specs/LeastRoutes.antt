-- What the routes of a network's routers are where it is settled.
use Rattle.std.specs.Prelude.{ℕ, ◌↔◌, List, Contains}
use Rattle.mesh_atoms.specs.declared.addr.NetAddr.{NetAddr}
use Rattle.mesh_atoms.specs.declared.graphs.Route.{Route}
use Rattle.mesh_atoms.specs.declared.settings.Scenario.{Scenario}
use Rattle.mesh_atoms.specs.Radio.{HopCosts, IsWillingRouter, RadioLeast}
use Rattle.mesh_atoms.specs.Settled.{At}
use Rattle.mesh_atoms.specs.State.{State}
use Rattle.mesh_atoms.specs.Walk.{LeastWilling}
use Rattle.mesh_paths.specs.SettledRoutes.{HasRow, HopsTo, LeadsOn}

-- each router's rows are exactly the radio graph's least metrics
abbrev pub AreLeastRoutes : Scenario → List State → Type 0
AreLeastRoutes s states = (x : ℕ) (p : State) → At states x p → (dest : NetAddr) (c : ℕ) → HasRow p dest c ↔ RadioLeast s x dest c

-- the next hop of each row is an adjacent router to which no way is cheaper than the arc that it names, and which leads on at
-- what is left of the row's metric
abbrev pub NextHopsLeadOn : Scenario → List State → Type 0
NextHopsLeadOn s states =
    (x : ℕ) (p : State) → At states x p → (row : Route) → Contains p.routes row →
    (n near : ℕ) × HopCosts s x n near × LeastWilling (HopCosts s) (IsWillingRouter s) x n near × HopsTo s states x row.iface n row.next near
    × LeadsOn s states row.dest n near row.metric
