-- The names that the proofs of this crate cite of its definitions and of the crates below, passed on from one place.
pub use Rattle.mesh_atoms.proofs.CodesLemmas.CodeLaws.{metric_above_zero}
pub use Rattle.mesh_atoms.proofs.Lists.{contains_cases, contains_head, contains_map, contains_none, contains_tail}
pub use Rattle.mesh_atoms.proofs.Values.{net_itself, not_before_itself, same_addr, same_host}
pub use Rattle.mesh_atoms.specs.Base.{host, net_eq}
pub use Rattle.mesh_atoms.specs.Codes.Codes.{metric_value}
pub use Rattle.mesh_atoms.specs.NextHop.{HasNoRouteTo, Holds, IsLongest}
pub use Rattle.mesh_atoms.specs.Radio.{AddressOf, Adjacent, Attaches, By, HopCosts, IsSoundScenario, IsWillingRouter, Itself, Joined, Joins, Leads, RadioLeast, Router, To_network, To_router}
pub use Rattle.mesh_atoms.specs.Settled.{AreStates, At}
pub use Rattle.mesh_atoms.specs.State.{HasAddress, HasAddressOn, State}
pub use Rattle.mesh_atoms.specs.Walk.{Direct, Further, Here, LeastToNet, LeastWilling, WillingWalk}
pub use Rattle.mesh_atoms.specs.declared.addr.Addr4.{Addr4}
pub use Rattle.mesh_atoms.specs.declared.addr.NetAddr.{NetAddr}
pub use Rattle.mesh_atoms.specs.declared.codes.metric.Metric.{Metric}
pub use Rattle.mesh_atoms.specs.declared.graphs.Route.{Route}
pub use Rattle.mesh_atoms.specs.declared.settings.Attached4.{Attached4}
pub use Rattle.mesh_atoms.specs.declared.settings.RadioArc.{RadioArc}
pub use Rattle.mesh_atoms.specs.declared.settings.RouterSettings.{RouterSettings}
pub use Rattle.mesh_atoms.specs.declared.settings.Scenario.{Scenario}
pub use Rattle.mesh_data.specs.Decisions.{IsAddressAt, IsArcOf, IsDecision, IsDecisionBy, IsLongerOf, IsLongestOf, IsMove, IsMoveBy, IsOnTheWay, longer_of}
pub use Rattle.mesh_data.specs.Laws.{AreSound, ArrivesAt, HasNetwork, HasOneGateway, IsNetworkOf, IsOnly, NeverStrays, OfEachTrip, ReachesNetwork, ReachesRouter}
pub use Rattle.mesh_data.specs.Trips.{After_all, AreChained, At_address, At_network, Delivers, EndsWith, HasNoWay, IsHop, IsTrip, LeadsToNext, TakesRoute, Without_arc, Without_route}
pub use Rattle.mesh_data.specs.declared.trip.End.{End}
pub use Rattle.mesh_data.specs.declared.trip.End.TheVariants.{Arrived, NoArc, NoRoute, TooFar}
pub use Rattle.mesh_data.specs.declared.trip.Hop.{Hop}
pub use Rattle.mesh_data.specs.declared.trip.Trip.{Trip}
pub use Rattle.mesh_paths.proofs.Rows.{item_in, no, of_each, yes}
pub use Rattle.mesh_paths.proofs.Scenarios.{any_of, sound_scenario}
pub use Rattle.mesh_paths.proofs.SettledNeighbours.{owner}
pub use Rattle.mesh_paths.specs.SettledRoutes.{Arrives, At_gateway, Goes_on, HasRow, HopsTo, IsSettledNetwork, NextHopsLead, RowsAreLeast}
pub use Rattle.std.proofs.Common.{Bool, Bor, Contains, IfNone, IfOk, IfSome, IsTrue, List, None, Option, Result, Some, [], ap, arith, cond, eqb, false, inl, inr, length, length-append, map, nat_lt, option_map, refl, slice_get, slice_index_or, subst, suc, sym, take, true, zero, ℕ, ◌*◌, ◌++◌, ◌+◌, ◌-◌, ◌/◌, ◌<◌, ◌^◌, ◌↔◌, ◌∙◌, ◌∷◌, ◌≡◌, ◌≢◌, ◌≤◌, ◌⊎◌}
pub use Rattle.std.proofs.lemmas.Bool.{and_parts, cases_Bool, cases_lt, cases_order, eqb-true, ltb-false, ltb-true, or_cases, or_parts}
pub use Rattle.std.proofs.lemmas.Grind.{common_steps}
pub use Rattle.std.proofs.lemmas.List.Elements.{AllWithin-more, Contains-append_cases, at_read}
pub use Rattle.std.proofs.lemmas.List.Sums.{sum_by-append}
pub use Rattle.std.proofs.lemmas.Option.{slice_get-map, slice_get_read, slice_get_within}
pub use Rattle.std.specs.List.{AllByRecursion, AllPairs, AllWithin, flat_map, list_any, sum_by}
