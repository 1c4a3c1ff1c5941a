-- The neighbours that have chosen a router as a routing relay.
use Rattle.std.specs.Prelude.{◌≡◌, ◌⊎◌, ◌↔◌, List, Contains, Some, IsTrue}
use Rattle.mesh_atoms.specs.declared.addr.Addr4.{Addr4}
use Rattle.mesh_atoms.specs.declared.codes.metric.Metric.{Metric}
use Rattle.mesh_atoms.specs.declared.tuples.Neighbour.{Neighbour}
use Rattle.mesh_atoms.specs.State.{State, HasSymmetric}
use Rattle.mesh_topo.specs.declared.advertised.rows.Selector.{Selector}

-- one of the selectors gives its addresses and its originator, at its metric
pub record SelectorGives (selectors : List Selector) (a o : Addr4) (m : Metric) : Type 0 where
  pub selector : Selector
  pub stands : Contains selectors selector
  pub originator : selector.originator ≡ o
  pub metric : selector.metric ≡ m
  pub address : Contains selector.addrs a ⊎ (a ≡ o)

-- the router has a symmetric neighbour with the selector flag, that originator and that known metric to it
abbrev pub HasSelector : State → Addr4 → Neighbour → Metric → Type 0
HasSelector s originator neighbour metric = HasSymmetric s originator neighbour × IsTrue neighbour.selector × (neighbour.metric_out ≡ Some metric)

-- a selector has an originator, a metric and the same addresses as a neighbour
abbrev pub IsSelectorOf : Selector → Addr4 → Neighbour → Metric → Type 0
IsSelectorOf x originator neighbour metric =
    (x.originator ≡ originator) × (x.metric ≡ metric) × ((a : Addr4) → Contains x.addrs a ↔ Contains neighbour.addrs a)

-- the selectors are exactly these neighbours
pub record AreSelectors (s : State) (selectors : List Selector) : Type 0 where
  pub each : (x : Selector) → Contains selectors x →
      (neighbour : Neighbour) × HasSelector s x.originator neighbour x.metric × IsSelectorOf x x.originator neighbour x.metric
  pub all : (originator : Addr4) (neighbour : Neighbour) (metric : Metric) → HasSelector s originator neighbour metric →
      (x : Selector) × Contains selectors x × IsSelectorOf x originator neighbour metric
