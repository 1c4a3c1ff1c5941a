-- The names that the proofs of this crate cite of its definitions and of the crates below, passed on from one place.
pub use Rattle.mesh_atoms.proofs.Lists.{contains_cases, contains_head, contains_map, contains_none, contains_tail}
pub use Rattle.mesh_atoms.proofs.Lookups.{addr_equiv, address_equiv, network_equiv, router_equiv, same_addr, same_link, same_net, same_network, same_router, same_two_hop}
pub use Rattle.mesh_atoms.proofs.Options.{cond_true, none_is_some, none_not, same_some, some_equal, true_false}
pub use Rattle.mesh_atoms.proofs.Values.{at_most_itself, same_address, same_host}
pub use Rattle.mesh_atoms.specs.Advertised.{Advertises, AdvertisesNetwork, AdvertisesOriginator, AreTcRows, GivesAsSelector, IsTcRow, Of_address, Of_network}
pub use Rattle.mesh_atoms.specs.AfterHello.{AfterHello, By_none, By_row, GoesOn, LinkKeptOrMade, Made, New_link, Remains, Same_link, Stood, StoodOn, TellsTwoHop, by_status, made, renewed}
pub use Rattle.mesh_atoms.specs.AfterTc.{AfterTc, Becomes, Given, GivesAddress, GivesNetwork, GivesRouter, Left, if_not_dropped}
pub use Rattle.mesh_atoms.specs.Ascends.{more_ascend, none_ascend, one_ascends}
pub use Rattle.mesh_atoms.specs.Base.{Base, Has, HasDistinctKeys, IsFresh, Same, SetsOnly, addr_eq, address_eq, base_of, find, flood_eq, host, if_live, link_eq, net_eq, network_eq, router_eq, two_hop_eq}
pub use Rattle.mesh_atoms.specs.Codes.Codes.{metric_value}
pub use Rattle.mesh_atoms.specs.Hello.{Flooding, HasLinkTo, IsSaid, Link_in, Link_out, Link_symmetric, Near_in, Near_out, Other_symmetric, Routing, Says, SaysSymmetric, link_part}
pub use Rattle.mesh_atoms.specs.HelloTold.{HasRowOf, IsHandedIn, IsListed, IsMyStatus, IsSending, LooksAt, Tells, TellsLocal, TellsMe, Told, or_else, tells_symmetric}
pub use Rattle.mesh_atoms.specs.Live.{Back, Gone, HasSymmetricOf, HasTables, IsByLinks, IsSymmetricAddress, LiveNeighbourhood, Restores, SettlesLost, Stays, is_symmetric_at, is_symmetric_entry, trim, trimmed}
pub use Rattle.mesh_atoms.specs.Nodes.{IsAtMost, IsBefore}
pub use Rattle.mesh_atoms.specs.Quality.{admit_on, admits_all, admitted, by_quality, quality_at, rule_of}
pub use Rattle.mesh_atoms.specs.Radio.{AddressOf, Adjacent, By, IsAdmitted, IsMetric, Itself, Joins, Leads, Router}
pub use Rattle.mesh_atoms.specs.RelayGraphs.{AreRelays, AreRelaysOf, IsFloodingGraph, IsMetricOver, IsRoutingGraph}
pub use Rattle.mesh_atoms.specs.Routes.{AreRoutes, By_address, By_network, By_router, IsNextHop, IsOutside, IsParent, RouteArc, To_neighbour, To_two_hop}
pub use Rattle.mesh_atoms.specs.Settings.{AreArcs, AreRouters, IsCount, IsEnd, IsInterface, IsInterval, IsName, IsRouter, IsTimes, are_distinct, are_no_hosts, longest_delay, one_hour, one_millisecond}
pub use Rattle.mesh_atoms.specs.Settled.{AreStates, At, IsAddressBy, IsLeastAddress, IsLinkTo, IsNeighbourOf, IsNetworkBy, IsPeer, IsRouterBy, IsSettledAt, IsStray, IsTwoHopBy}
pub use Rattle.mesh_atoms.specs.Sound.{IsSoundLink, IsSoundNeighbour, IsWithin, Sound, SoundNeighbourhood, SoundTopology}
pub use Rattle.mesh_atoms.specs.State.{Bases, HasAddress, HasAddressOn, HasLink, HasSymmetric, HasSymmetricWith, HasTwoHop, IsOriginator, Neighbourhood, State, TopologyBase, is_symmetric, link_at, lost_at, neighbour_at, state_of, two_hop_at}
pub use Rattle.mesh_atoms.specs.TakesHello.{FitsTwoHops, IsFault, IsFullOfAddresses, IsHeld, IsOwn, Local, Originator, Overfull_two_hops, Sender, Takes}
pub use Rattle.mesh_atoms.specs.Walk.{AtSelf, FirstNode, Least, Onward, Stay, Through, Walk}
pub use Rattle.mesh_atoms.specs.Words.{AreMoreThan, IsAscending, IsKept, IsLeastMetric, IsValue, Lists}
pub use Rattle.mesh_atoms.specs.declared.addr.Addr4.{Addr4}
pub use Rattle.mesh_atoms.specs.declared.addr.NetAddr.{NetAddr}
pub use Rattle.mesh_atoms.specs.declared.admit.Admit.{Admit}
pub use Rattle.mesh_atoms.specs.declared.codes.metric.Metric.{Metric}
pub use Rattle.mesh_atoms.specs.declared.graphs.Direct.{Direct}
pub use Rattle.mesh_atoms.specs.declared.graphs.Near.{Near}
pub use Rattle.mesh_atoms.specs.declared.graphs.NeighbourGraph.{NeighbourGraph}
pub use Rattle.mesh_atoms.specs.declared.graphs.Route.{Route}
pub use Rattle.mesh_atoms.specs.declared.hello.Hello.{Hello}
pub use Rattle.mesh_atoms.specs.declared.hello.HelloRow.{HelloRow}
pub use Rattle.mesh_atoms.specs.declared.hello.LinkStatus.{LinkStatus}
pub use Rattle.mesh_atoms.specs.declared.hello.LinkStatus.TheVariants.{Heard}
pub use Rattle.mesh_atoms.specs.declared.hello.LocalIf.{LocalIf}
pub use Rattle.mesh_atoms.specs.declared.hello.LocalIf.TheVariants.{Other, This}
pub use Rattle.mesh_atoms.specs.declared.settings.Attached4.{Attached4}
pub use Rattle.mesh_atoms.specs.declared.settings.Interface.{Interface}
pub use Rattle.mesh_atoms.specs.declared.settings.RadioArc.{RadioArc}
pub use Rattle.mesh_atoms.specs.declared.settings.RouterSettings.{RouterSettings}
pub use Rattle.mesh_atoms.specs.declared.settings.Scenario.{Scenario}
pub use Rattle.mesh_atoms.specs.declared.settings.SenderMetric.{SenderMetric}
pub use Rattle.mesh_atoms.specs.declared.tc.Tc.{Tc}
pub use Rattle.mesh_atoms.specs.declared.tc.TcRow.{TcRow}
pub use Rattle.mesh_atoms.specs.declared.tuples.AddressKey.{AddressKey}
pub use Rattle.mesh_atoms.specs.declared.tuples.AddressTuple.{AddressTuple}
pub use Rattle.mesh_atoms.specs.declared.tuples.Advertiser.{Advertiser}
pub use Rattle.mesh_atoms.specs.declared.tuples.Link.{Link}
pub use Rattle.mesh_atoms.specs.declared.tuples.LinkKey.{LinkKey}
pub use Rattle.mesh_atoms.specs.declared.tuples.LinkState.TheVariants.{Pending, Symmetric}
pub use Rattle.mesh_atoms.specs.declared.tuples.Lost.{Lost}
pub use Rattle.mesh_atoms.specs.declared.tuples.Neighbour.{Neighbour}
pub use Rattle.mesh_atoms.specs.declared.tuples.NetworkKey.{NetworkKey}
pub use Rattle.mesh_atoms.specs.declared.tuples.NetworkTuple.{NetworkTuple}
pub use Rattle.mesh_atoms.specs.declared.tuples.Noted.{Noted}
pub use Rattle.mesh_atoms.specs.declared.tuples.RouterKey.{RouterKey}
pub use Rattle.mesh_atoms.specs.declared.tuples.RouterTuple.{RouterTuple}
pub use Rattle.mesh_atoms.specs.declared.tuples.TwoHop.{TwoHop}
pub use Rattle.mesh_atoms.specs.declared.tuples.TwoHopKey.{TwoHopKey}
pub use Rattle.mesh_flood.specs.Verdict.{key_of}
pub use Rattle.mesh_laws.specs.Spoiled.{RefusesForwardedAtAnotherMoment, RefusesForwardedUnsent, RefusesFullOfOne, RefusesFullThoughFits, RefusesGivenAtAnotherMoment, RefusesGivenOtherwise, RefusesLinkGone, RefusesLinkMetricFirst, RefusesLinkOfSharedAddress, RefusesLinkOfUnlisted, RefusesLinksTogether, RefusesLossUntold, RefusesLostAtAnotherMoment, RefusesLostGone, RefusesLostLinkKept, RefusesLostMoved, RefusesLostOutOfNothing, RefusesLostSymmetric, RefusesLostThoughBack, RefusesMadeUnadmitted, RefusesMetricUnsaid, RefusesNeighbourGone, RefusesNeighbourOutOfNothing, RefusesNeighbourTooLong, RefusesNeighbourTooShort, RefusesNetworkOfOldNumber, RefusesNetworkUntaken, RefusesNumberAtAnotherMoment, RefusesNumberUnnoted, RefusesOtherAddresses, RefusesOtherMetricIn, RefusesOtherMetricOut, RefusesOtherQuality, RefusesOtherWillingness, RefusesOwnLost, RefusesProcessedAtAnotherMoment, RefusesProcessedOutOfNothing, RefusesProcessedUnnoted, RefusesReceivedAtAnotherMoment, RefusesReceivedElsewhere, RefusesReceivedOutOfNothing, RefusesRouterOfOldNumber, RefusesRouterUntaken, RefusesRowByLinkMetric, RefusesRowWithoutMetric, RefusesSelectorCleared, RefusesSelectorKept, RefusesSymmetricOutOfNothing, RefusesSymmetricUntold, RefusesTakenThoughFull, RefusesTakenThoughManyRows, RefusesTupleGoneByPart, RefusesTupleGoneOfAnother}
pub use Rattle.mesh_laws.specs.Unspoiled.{LostIsKept, MessageIsNoted, MessageIsPassedOver, TcIsTaken, heading, noted, outdated, quiet, row, silent, tc}
pub use Rattle.mesh_laws.specs.Witnesses.{AreInARow, ThreeRoutersSettle, TwoRoutersSettle}
pub use Rattle.mesh_laws.specs.WorkedHello.{FirstHelloIsTaken, IsReceiver, SecondHelloIsTaken, after, five, heard_link, heard_neighbour, hello, later, later_hello, link, lost_row, me, my_row, neighbour, no_relay, nothing, one, own_row, peer, seven, third, third_row, three}
pub use Rattle.mesh_paths.proofs.Scenarios.{ends_of, sound_scenario}
pub use Rattle.mesh_paths.proofs.ShortLists.{empties_within, empty_distinct, empty_within, few_of_one, first_of, found_one, only, same_number, single_distinct, two}
pub use Rattle.mesh_paths.specs.SettledRoutes.{HasRow, IsSettledNetwork}
pub use Rattle.std.proofs.Common.{AllPairs, Bool, Contains, IsTrue, List, None, Option, Some, [], ap, arith, cond, false, flat_map, inl, inr, length, map, nat_eq, nat_le, not, refl, slice_get, slice_index_or, subst, suc, sym, true, zero, ℕ, ◌%◌, ◌&&◌, ◌+◌, ◌-◌, ◌<◌, ◌^◌, ◌↔◌, ◌∙◌, ◌∷◌, ◌≡◌, ◌≢◌, ◌≤◌, ◌⊎◌}
pub use Rattle.std.proofs.lemmas.Bool.{and_parts, cases_Bool, eq-eqb, eqb-true, leb-true, lt-ltb}
pub use Rattle.std.proofs.lemmas.Grind.{common_steps}
pub use Rattle.std.proofs.lemmas.Map.Views.{Contains-from_lookup}
unfoldable pub use Rattle.std.specs.List.{IsDistinct}
