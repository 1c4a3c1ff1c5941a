-- The names that the proofs of this crate cite of its definitions and of the crates below, passed on from one place.
pub use Rattle.mesh_atoms.proofs.CodesLemmas.CodeLaws.{metric_above_zero}
pub use Rattle.mesh_atoms.proofs.Lists.{all_pairs_cons, all_pairs_head, all_pairs_tail, contains_at, contains_cases, contains_head, contains_none, contains_tail, none_within, option_cases, place_in}
pub use Rattle.mesh_atoms.proofs.Lookups.{addr_equiv, address_equiv, has_found, link_equiv, looks_up_links, looks_up_neighbours, looks_up_two_hops, network_equiv, router_equiv, same_link, same_network, same_router, tests_symmetric}
pub use Rattle.mesh_atoms.proofs.NetOrder.{is_equal, net_exact, net_less, net_total, then_equal, then_less}
pub use Rattle.mesh_atoms.proofs.Nets.{same_net}
pub use Rattle.mesh_atoms.proofs.Values.{before_trans, contains_or_not, not_before_itself, one_originator, same_addr, same_address}
pub use Rattle.mesh_atoms.specs.Base.{Base, Has, HasDistinctKeys, addr_eq, base_of, find, host}
pub use Rattle.mesh_atoms.specs.Codes.Codes.{metric_value}
pub use Rattle.mesh_atoms.specs.Live.{HasSymmetricOf, HasTables}
pub use Rattle.mesh_atoms.specs.NextHop.{HasAddressIn, Holds}
pub use Rattle.mesh_atoms.specs.Nodes.{IsBefore, net_cmp}
pub use Rattle.mesh_atoms.specs.RelayGraphs.{IsFloodingGraph, IsMetricOver, IsRoutingGraph}
pub use Rattle.mesh_atoms.specs.Routes.{AreRoutes, By_address, By_network, By_router, IsNextHop, IsOutside, IsParent, IsWayTo, RouteArc, To_neighbour, To_two_hop}
pub use Rattle.mesh_atoms.specs.Sound.{SoundNeighbourhood, SoundTopology}
pub use Rattle.mesh_atoms.specs.State.{HasAddress, HasLink, HasSymmetric, HasSymmetricWith, HasTwoHop, IsOriginator, Neighbourhood, State, TopologyBase, is_symmetric, link_at, neighbour_at, state_of, two_hop_at}
pub use Rattle.mesh_atoms.specs.Walk.{AtSelf, FirstNode, Fits, Least, Onward, Stay, Through, Walk}
pub use Rattle.mesh_atoms.specs.declared.addr.Addr4.{Addr4}
pub use Rattle.mesh_atoms.specs.declared.addr.NetAddr.{NetAddr}
pub use Rattle.mesh_atoms.specs.declared.codes.metric.Metric.{Metric}
pub use Rattle.mesh_atoms.specs.declared.graphs.Arc4.{Arc4}
pub use Rattle.mesh_atoms.specs.declared.graphs.Direct.{Direct}
pub use Rattle.mesh_atoms.specs.declared.graphs.Far.{Far}
pub use Rattle.mesh_atoms.specs.declared.graphs.Graph.{Graph}
pub use Rattle.mesh_atoms.specs.declared.graphs.Near.{Near}
pub use Rattle.mesh_atoms.specs.declared.graphs.NeighbourGraph.{NeighbourGraph}
pub use Rattle.mesh_atoms.specs.declared.graphs.PathRow.{PathRow}
pub use Rattle.mesh_atoms.specs.declared.graphs.Route.{Route}
pub use Rattle.mesh_atoms.specs.declared.settings.Attached4.{Attached4}
pub use Rattle.mesh_atoms.specs.declared.settings.Interface.{Interface}
pub use Rattle.mesh_atoms.specs.declared.settings.RouterSettings.{RouterSettings}
pub use Rattle.mesh_atoms.specs.declared.tuples.AddressKey.{AddressKey}
pub use Rattle.mesh_atoms.specs.declared.tuples.AddressTuple.{AddressTuple}
pub use Rattle.mesh_atoms.specs.declared.tuples.Link.{Link}
pub use Rattle.mesh_atoms.specs.declared.tuples.LinkKey.{LinkKey}
pub use Rattle.mesh_atoms.specs.declared.tuples.LinkState.TheVariants.{Symmetric}
pub use Rattle.mesh_atoms.specs.declared.tuples.Neighbour.{Neighbour}
pub use Rattle.mesh_atoms.specs.declared.tuples.NetworkKey.{NetworkKey}
pub use Rattle.mesh_atoms.specs.declared.tuples.NetworkTuple.{NetworkTuple}
pub use Rattle.mesh_atoms.specs.declared.tuples.RouterKey.{RouterKey}
pub use Rattle.mesh_atoms.specs.declared.tuples.RouterTuple.{RouterTuple}
pub use Rattle.mesh_atoms.specs.declared.tuples.TwoHop.{TwoHop}
pub use Rattle.mesh_atoms.specs.declared.tuples.TwoHopKey.{TwoHopKey}
pub use Rattle.mesh_paths.proofs.Order.{before_later, same_node}
pub use Rattle.mesh_paths.proofs.Rows.{item_in, no, of_each, yes}
pub use Rattle.mesh_paths.proofs.Sets.{added, came, stays}
pub use Rattle.mesh_paths.proofs.SettledNeighbours.{originator_address}
pub use Rattle.mesh_paths.specs.Paths.{AreAscendingRows, HasCosts, InGraph, IsCertificate}
pub use Rattle.mesh_routes.specs.Arcs.{Addresses, Beyond, IsArcOfAll, IsGraphOf, IsToldArc, IsTwoHopArc, Networks, Own, Routers, address_arc, network_arc, own_arc, router_arc}
pub use Rattle.mesh_routes.specs.Choice.{AreVias, Counts, IsChoice, IsDirectBy, IsFarOfAll, IsNearBy, IsOverIface, direct_at, far_at, far_by}
pub use Rattle.mesh_routes.specs.Firsts.{AreFirsts, IsParentIn, IsRooted, NodeMap, PutsFirst, first_at, turn_cmp, turn_of}
pub use Rattle.mesh_routes.specs.Hops.Arcs.{arc_at, known_arc, two_hop_arc, willing_arc}
pub use Rattle.mesh_routes.specs.Hops.Costs.{CostsIn, CostsOver}
pub use Rattle.mesh_routes.specs.Hops.Own.{HasNetworkIn, IsOutsideOf}
pub use Rattle.mesh_routes.specs.Hops.Owners.{OwnerMap, addr_cmp, owner_at, owner_by}
pub use Rattle.mesh_routes.specs.Hops.Ways.{IsBestLink, IsCutOff, IsNoWorse, way_at, way_cmp, way_of}
pub use Rattle.mesh_routes.specs.Owners.{AreOwners, IsOwnerOf, PutsOwner}
pub use Rattle.mesh_routes.specs.Passes.{Adds, Given, GivenByElement}
pub use Rattle.mesh_routes.specs.Rows.{AreRoutesOf, HasNoHop, HasNoRoute, IsHop, IsRouteOf, route_by}
pub use Rattle.mesh_routes.specs.Staying.{BasesGiveSame, GraphsStay, RoutesStay, SameArcs, SameOwn, SameTwoHops, SameWays}
pub use Rattle.mesh_routes.specs.Ways.{IsWayOfAll}
pub use Rattle.mesh_routes.specs.declared.firsts.Turn.{Turn}
pub use Rattle.mesh_routes.specs.declared.hops.owners.SymmetricNeighbour.{SymmetricNeighbour}
pub use Rattle.mesh_routes.specs.declared.hops.ways.NeighbourLink.{NeighbourLink}
pub use Rattle.std.proofs.Common.{Bool, Contains, Err, IfErr, IfOk, IfSome, IsSome, IsTrue, List, None, Ok, Option, Result, Some, [], ap, arith, cond, eq-eqb, false, get_or, inl, inr, is_some, length, length-append, map, nat_eq, not, option_map, refl, rules, slice_get, slice_index_or, subst, suc, sym, true, zero, ℕ, ◌*◌, ◌++◌, ◌+◌, ◌-◌, ◌/◌, ◌<◌, ◌^◌, ◌↔◌, ◌∙◌, ◌∷◌, ◌≡◌, ◌≢◌, ◌≤◌, ◌⊎◌}
pub use Rattle.std.proofs.lemmas.Bool.{cases_Bool, cases_eq, cases_lt, false≢true}
pub use Rattle.std.proofs.lemmas.Cmp.{nat_cmp_total, on_total, ranked, then_total, tied_itself}
pub use Rattle.std.proofs.lemmas.Grind.{common_steps}
pub use Rattle.std.proofs.lemmas.List.{append-nil, get_or_past, length-map}
pub use Rattle.std.proofs.lemmas.List.Elements.{All-contains, AllWithin-more, AllWithin-upto, Contains-append_cases, Contains-append_left, Contains-append_right, Contains-push, Contains-push_cases, at_read}
pub use Rattle.std.proofs.lemmas.List.Sorted.{answers_always, searchable_from_sorted}
pub use Rattle.std.proofs.lemmas.Map.Lookups.{CmpEqualImpliesEq, exact_unsigned}
pub use Rattle.std.proofs.lemmas.Map.Views.{Contains-from_lookup, btree_map_contains_key_iff, btree_map_get_iff, btree_set_contains_iff, lookup-from_Contains}
pub use Rattle.std.proofs.lemmas.Option.{get_or_from_slice_get, slice_get-get_or, slice_get_cases, slice_get_within}
pub use Rattle.std.specs.BTreeSet.{BTreeSet}
pub use Rattle.std.specs.Cmp.{IsEquivalence, IsTotalOrder}
pub use Rattle.std.specs.List.{All, AllPairs, AllWithin, HoldsAt, IsDistinct, cons_option, filter_map}
pub use Rattle.std.specs.Ordering.{eq_by_cmp, is_eq, is_gt, is_lt, nat_cmp, ordering_then}
pub use Rattle.std.specs.declared.cmp.Ordering.{Ordering}
pub use Rattle.std.specs.declared.cmp.Ordering.TheVariants.{Equal, Greater, Less}
