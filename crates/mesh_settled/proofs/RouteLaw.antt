-- The routes of a settled network.
use Rattle.mesh_settled.proofs.Common.{arith, common_steps, ℕ, List, RadioGraph, Scenario, Settled, State, sound_scenario, IsNetwork}
use Rattle.mesh_paths.specs.SettledRoutes.{IsSettledNetwork}
use Rattle.mesh_paths.proofs.SettledLaw.{settled_rows, settled_next_hops}
use Rattle.mesh_settled.specs.Law.{IsLeastWhereSettled, LeadsWhereSettled}

settled_network : (s : Scenario) (g : RadioGraph) (states : List State) (now : ℕ) → IsNetwork s g states now → Settled s states now → IsSettledNetwork s states now
settled_network s g states now net settled = grind (arith, common_steps, sound_scenario)

pub rows_are_least : IsLeastWhereSettled
rows_are_least s g states now net settled = λ x p at. settled_rows s states now x p (settled_network s g states now net settled) at

pub next_hops_lead : LeadsWhereSettled
next_hops_lead s g states now net settled = λ x p at. settled_next_hops s states now x p (settled_network s g states now net settled) at
