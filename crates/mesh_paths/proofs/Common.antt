-- The names that the proofs of this crate cite of its definitions and of the crates below, passed on from one place.
pub use Rattle.mesh_atoms.proofs.CodesLemmas.CodeLaws.{metric_above_zero}
pub use Rattle.mesh_atoms.proofs.Deciding.{Decides-and, Decides-eqb, Decides-ltb, Decides-not, Decides-some}
pub use Rattle.mesh_atoms.proofs.Lists.{back_distinct, contains_at, contains_cases, contains_filter, contains_flat_map_at, contains_head, contains_map, contains_none, contains_tail, first_item, front_distinct, one_part}
pub use Rattle.mesh_atoms.proofs.NetOrder.{is_equal, net_exact, net_less, net_total, then_equal}
pub use Rattle.mesh_atoms.proofs.Nets.{same_net}
pub use Rattle.mesh_atoms.proofs.Options.{none_is_some, not_both, same_some}
pub use Rattle.mesh_atoms.proofs.Values.{at_most_itself, at_most_of_before, before_trans, not_before_itself, same_address, same_host}
pub use Rattle.mesh_atoms.specs.Advertised.{Advertises, AdvertisesNetwork, GivesAsSelector}
pub use Rattle.mesh_atoms.specs.Base.{Base, HasDistinctKeys, addr_eq, base_of, host, if_live}
pub use Rattle.mesh_atoms.specs.Codes.Codes.{metric_value}
pub use Rattle.mesh_atoms.specs.Hello.{IsSaid, Link_in, Link_out, Near_in, Near_out, Routing, Says, SaysLink, SaysSymmetric}
pub use Rattle.mesh_atoms.specs.Nodes.{IsAtMost, IsBefore, net_cmp}
pub use Rattle.mesh_atoms.specs.Quality.{admit_on, quality_at}
pub use Rattle.mesh_atoms.specs.Radio.{AddressOf, Adjacent, Attaches, By, HopCosts, IsAdmitted, IsMetric, IsRadioGraph, IsSoundScenario, IsWillingRouter, Itself, Joined, Joins, Leads, OriginatorOf, RadioLeast, Router, To_network, To_router}
pub use Rattle.mesh_atoms.specs.Relays.{Covers, IsRelay, IsWilling, Offers}
pub use Rattle.mesh_atoms.specs.Routes.{AreRoutes, By_address, By_network, By_router, IsNextHop, IsOutside, IsParent, RouteArc, To_neighbour, To_two_hop}
pub use Rattle.mesh_atoms.specs.Settings.{Ends, are_distinct, ends_eq, is_host, is_interface}
pub use Rattle.mesh_atoms.specs.Settled.{At, IsNeighbourOf, IsPeer, IsStray, IsTwoHopBy}
pub use Rattle.mesh_atoms.specs.Sound.{IsSoundLink, IsWithin, Sound, SoundNeighbourhood}
pub use Rattle.mesh_atoms.specs.State.{HasAddress, HasAddressOn, HasSymmetric, HasSymmetricWith, HasTwoHop, IsOriginator, Neighbourhood, State, link_at, state_of}
pub use Rattle.mesh_atoms.specs.Walk.{AtSelf, Direct, FirstNode, Fits, Further, Here, Least, LeastToNet, LeastWilling, Onward, Stay, Through, Walk, WillingWalk}
pub use Rattle.mesh_atoms.specs.declared.addr.Addr4.{Addr4}
pub use Rattle.mesh_atoms.specs.declared.addr.NetAddr.{NetAddr}
pub use Rattle.mesh_atoms.specs.declared.codes.metric.Metric.{Metric}
pub use Rattle.mesh_atoms.specs.declared.graphs.Arc4.{Arc4}
pub use Rattle.mesh_atoms.specs.declared.graphs.Certificate.{Certificate}
pub use Rattle.mesh_atoms.specs.declared.graphs.Graph.{Graph}
pub use Rattle.mesh_atoms.specs.declared.graphs.Pair.{Pair}
pub use Rattle.mesh_atoms.specs.declared.graphs.PathRow.{PathRow}
pub use Rattle.mesh_atoms.specs.declared.hello.Willing.{Willing}
pub use Rattle.mesh_atoms.specs.declared.settings.Attached4.{Attached4}
pub use Rattle.mesh_atoms.specs.declared.settings.Interface.{Interface}
pub use Rattle.mesh_atoms.specs.declared.settings.RadioArc.{RadioArc}
pub use Rattle.mesh_atoms.specs.declared.settings.RouterSettings.{RouterSettings}
pub use Rattle.mesh_atoms.specs.declared.settings.Scenario.{Scenario}
pub use Rattle.mesh_atoms.specs.declared.tuples.Link.{Link}
pub use Rattle.mesh_atoms.specs.declared.tuples.LinkKey.{LinkKey}
pub use Rattle.mesh_atoms.specs.declared.tuples.Neighbour.{Neighbour}
pub use Rattle.mesh_paths.specs.Frontier.{IsMetOrWaits, IsSearch, IsTaking, OffersAll, OffersArc, offered, work_in}
pub use Rattle.mesh_paths.specs.Parts.{Chain, Goes, IsInside, IsLevel, IsParts, Lowers, can_accept, face_in, face_of, is_admitted, is_admitted_back, is_arc_back, is_joined, is_met, pair_of}
pub use Rattle.mesh_paths.specs.Paths.{AreAscendingRows, EveryGraphHasCertificate, HasCosts, InGraph, IsCertificate, IsOneCertificate, IsPathRow}
pub use Rattle.mesh_paths.specs.Reached.{Betters, HasAsGood, HasLedRows, IsInRange, IsLedTo, IsMetIn, IsOfferBy, RowMap, missing_in, missing_of, weight_in, weight_of}
pub use Rattle.mesh_paths.specs.Search.{IsIndex, IsKeyed, IsPart, IsRun, IsSettledRow, PutsStep, Settles, number_from, number_of, row_of, step_cmp, step_of}
pub use Rattle.mesh_paths.specs.SettledRoutes.{Arrives, At_gateway, Attaches_it, Goes_on, HasRow, Has_it, HopsTo, IsSettledNetwork, LeadsOn, Next, NextHopsLead, RowsAreLeast, TripEnds, TripsEnd}
pub use Rattle.mesh_paths.specs.Tree.{IsArcMet, IsAsGood, IsClosed, IsGrounded, IsOffered, IsReached, IsStart, IsStep, IsTree, MeetsBy, MeetsRow, OffersBy, OffersTo}
pub use Rattle.mesh_paths.specs.declared.frontier.ArcRun.{ArcRun}
pub use Rattle.mesh_paths.specs.declared.frontier.SearchStep.{SearchStep}
pub use Rattle.std.proofs.Common.{Bool, Contains, Decides, IsTrue, List, None, Option, Some, [], ap, arith, cond, drop, false, filter, inl, inr, leb, leb-true, length, length-append, length-take, ltb, map, nat_eq, nat_lt, not, refl, rules, slice_get, slice_index, slice_index_or, slice_set, subst, suc, sym, take, true, zero, ℕ, ◌*◌, ◌++◌, ◌+◌, ◌-◌, ◌<◌, ◌↔◌, ◌∙◌, ◌∷◌, ◌≡◌, ◌≢◌, ◌≤◌, ◌⊎◌}
pub use Rattle.std.proofs.lemmas.Bool.{and_parts, cases_Bool, cases_eq, cases_lt, cond_both, eq-eqb, le-leb, leb-false, ltb-false, ltb-true, or_left, or_right}
pub use Rattle.std.proofs.lemmas.Cmp.{eq_by_cmp_equiv, nat_cmp_total, on_total, then_total, tied_itself}
pub use Rattle.std.proofs.lemmas.Grind.{common_steps}
pub use Rattle.std.proofs.lemmas.List.{get_or-drop, get_or-take, get_or_default, length-drop, length-set, take_rest}
pub use Rattle.std.proofs.lemmas.List.Elements.{All-contains, AllWithin-more, Contains-append_left, Contains-append_right, Contains-get_or, Contains-push_cases, at_read}
pub use Rattle.std.proofs.lemmas.List.FromFn.{get_or-range_with_len, length-range_with_len}
pub use Rattle.std.proofs.lemmas.List.Sorted.{Contains-permutation, IsNonDecreasingBy-drop, IsNonDecreasingBy-from_sort_by_key, IsPartitionPoint-from_clause, IsPartitionedBy-leb, IsPartitionedBy-ltb, IsPermutation-sym}
pub use Rattle.std.proofs.lemmas.List.Sums.{sum_by-cons, sum_by-set}
pub use Rattle.std.proofs.lemmas.Map.Views.{All-found, Contains-from_lookup, btree_set_contains_iff, lookup-from_Contains}
pub use Rattle.std.proofs.lemmas.Option.{get_or_from_slice_get, slice_get-get_or, slice_get_cases, slice_get_within}
pub use Rattle.std.specs.BTreeMap.{BTreeMap, values}
pub use Rattle.std.specs.List.{AllAdjacentBelow, AllWithin, flat_map, list_all, list_any, range_with_len, slice_range, sum, sum_by}
pub use Rattle.std.specs.List.Sorted.{IsNonDecreasingBy, IsPartitionPoint, IsPermutation}
pub use Rattle.std.specs.Map.{keys_of, values_of}
pub use Rattle.std.specs.Ordering.{eq_by_cmp, is_eq, nat_cmp, ordering_then}
