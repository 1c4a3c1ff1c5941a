-- The names that the proofs of this crate cite of its definitions and of the crates below, passed on from one place.
pub use Rattle.mesh_atoms.proofs.Deciding.{Decides-addr, Decides-and, Decides-each, Decides-some}
pub use Rattle.mesh_atoms.proofs.Lists.{contains_at, contains_map, contains_none, place_of}
pub use Rattle.mesh_atoms.proofs.Lookups.{address_equiv, has_found, looks_up_links, looks_up_neighbours, looks_up_two_hops, network_equiv, router_equiv, same_address, same_net, same_network, same_router, tests_symmetric}
pub use Rattle.mesh_atoms.proofs.Options.{cond_none_some, same_answer, same_some, some_equal, true_false}
pub use Rattle.mesh_atoms.proofs.Values.{not_before_itself, on_interface, one_originator, same_addr}
pub use Rattle.mesh_atoms.specs.Base.{Base, Has, HasDistinctKeys, addr_eq, base_of, find, host, link_eq, net_eq, two_hop_eq}
pub use Rattle.mesh_atoms.specs.Codes.Codes.{metric_value}
pub use Rattle.mesh_atoms.specs.Hello.{Flooding, Routing, Says, SaysSymmetric}
pub use Rattle.mesh_atoms.specs.Radio.{Adjacent, IsMetric, IsRadioGraph, Joined, Joins, Leads}
pub use Rattle.mesh_atoms.specs.Settled.{At, IsAddressBy, IsLeastAddress, IsLinkTo, IsNeighbourOf, IsNetworkBy, IsPeer, IsRouterBy, IsSettledAt, IsStray, IsTwoHopBy, Settled}
pub use Rattle.mesh_atoms.specs.Sound.{Sound}
pub use Rattle.mesh_atoms.specs.State.{HasAddress, HasAddressOn, HasLink, HasSymmetric, HasSymmetricWith, HasTwoHop, IsOriginator, State, is_symmetric, link_at, neighbour_at, state_of}
pub use Rattle.mesh_atoms.specs.Words.{IsValue}
pub use Rattle.mesh_atoms.specs.declared.addr.Addr4.{Addr4}
pub use Rattle.mesh_atoms.specs.declared.addr.NetAddr.{NetAddr}
pub use Rattle.mesh_atoms.specs.declared.codes.metric.Metric.{Metric}
pub use Rattle.mesh_atoms.specs.declared.gap.GapKey.{GapKey}
pub use Rattle.mesh_atoms.specs.declared.gap.GapKey.TheVariants.{Address, Link, Neighbour, Network, Router, TwoHop}
pub use Rattle.mesh_atoms.specs.declared.graphs.Pair.{Pair}
pub use Rattle.mesh_atoms.specs.declared.graphs.RadioGraph.{RadioGraph}
pub use Rattle.mesh_atoms.specs.declared.settings.Interface.{Interface}
pub use Rattle.mesh_atoms.specs.declared.settings.RouterSettings.{RouterSettings}
pub use Rattle.mesh_atoms.specs.declared.settings.Scenario.{Scenario}
pub use Rattle.mesh_atoms.specs.declared.tuples.LinkKey.{LinkKey}
pub use Rattle.mesh_atoms.specs.declared.tuples.LinkState.TheVariants.{Symmetric}
pub use Rattle.mesh_atoms.specs.declared.tuples.TwoHopKey.{TwoHopKey}
pub use Rattle.mesh_machine.specs.expire.Table.{entry_of}
pub use Rattle.mesh_paths.proofs.Admitted.{joins_back}
pub use Rattle.mesh_paths.proofs.Rows.{no}
pub use Rattle.mesh_paths.proofs.Scenarios.{ends_of, sound_scenario}
pub use Rattle.mesh_paths.proofs.SettledNeighbours.{originator_address}
pub use Rattle.mesh_settled.specs.Gaps.Fields.{AllSame, AreApart, Differ, DifferFrom, Field, Number, SaySame, address_fields, cost_field, flag_field, known_cost, link_fields, neighbour_fields, network_fields, router_fields, topology_fields, two_hop_fields}
pub use Rattle.mesh_settled.specs.Gaps.Found.{IsLeastGap, IsLeastMissing, IsSide, IsTest, IsTestFrom, compared, found_at, least_of, lesser, lower}
pub use Rattle.mesh_settled.specs.Gaps.Gaps.{AreSame, HasNoGap, Held_alone, IsExcepted, IsGapAt, IsHeldLink, IsHeldNeighbour, IsHeldTopic, IsHeldTuple, IsHeldTwoHop, IsPresentLink, IsPresentNeighbour, IsPresentTopic, IsPresentTuple, IsPresentTwoHop, Look, Present_alone, Unequal, is_ranked_before, look, precedes, rank_of}
pub use Rattle.mesh_settled.specs.Gaps.Joints.{IsBack, IsJointBy, IsJointWith, IsLeastOf, IsOfSome, all_addresses}
pub use Rattle.mesh_settled.specs.Gaps.Links.{IsGiven, IsGivenAt, IsHeldOn, IsLinkHeld, IsLinkKey, given_link, symmetric_fields}
pub use Rattle.mesh_settled.specs.Gaps.Metrics.{IsLeading, IsLeastMetricOf, cheaper, less}
pub use Rattle.mesh_settled.specs.Gaps.Neighbours.{IsGivenNear, IsNear, IsNeighbourHeld, IsNeighbourKey, IsOriginatorBelow, IsOriginatorOf, given_fields, given_tuple}
pub use Rattle.mesh_settled.specs.Gaps.Network.{IsNetwork}
pub use Rattle.mesh_settled.specs.Gaps.Peers.{IsOrigin, IsPeerOriginator, IsStrayAt, IsValueOf}
pub use Rattle.mesh_settled.specs.Gaps.Site.{seen, states}
pub use Rattle.mesh_settled.specs.Gaps.Topics.{IsByAllRows, IsByRows, IsClaimBy, IsHeldAt, IsPresentClaim, IsToRow, IsToRows, IsTopicKey, IsTupleHeld, claim, claim_by, claim_fields, claim_if, dest_of, held_claim, ends_at, is_row_of, key_at}
pub use Rattle.mesh_settled.specs.Gaps.TwoHops.{IsGivenBy, IsGivenIn, IsHeldBy, IsJoinedPeer, IsKeyBy, IsKeyIn, IsKeyNear, IsKeyOf, IsKeyOfAt, IsKeyOfSome, IsTwoHopAt, IsTwoHopKey, if_far, key_by}
pub use Rattle.mesh_settled.specs.Kinds.{IsFirstAt, IsFirstFound, IsFirstOf, IsTopologyKey, reported}
pub use Rattle.mesh_settled.specs.declared.gaps.found.Found.{Found}
pub use Rattle.mesh_settled.specs.declared.gaps.joints.Joint.{Joint}
pub use Rattle.mesh_settled.specs.declared.gaps.topics.Claim.{Claim}
pub use Rattle.mesh_settled.specs.declared.gaps.topics.TopologyKind.{TopologyKind}
pub use Rattle.mesh_settled.specs.declared.gaps.topics.TopologyKind.TheVariants.{Addresses, Networks, Routers}
pub use Rattle.std.proofs.Common.{AllPairs, Bool, Contains, Decides, IfSome, IsNone, IsTrue, List, None, Option, Some, [], ap, arith, cond, false, get_or, inl, inr, is_some, length, map, nat_eq, nat_lt, not, option_map, refl, slice_get, slice_index, subst, suc, sym, true, zero, ℕ, ◌&&◌, ◌*◌, ◌+◌, ◌<◌, ◌↔◌, ◌∙◌, ◌∷◌, ◌≡◌, ◌≢◌, ◌≤◌, ◌⊎◌}
pub use Rattle.std.proofs.lemmas.Bool.{and_from, and_parts, cases_Bool, cases_eq, cases_lt, eq-eqb, eqb-true, false≢true, lt-ltb, ltb-false, ltb-true, or_cases}
pub use Rattle.std.proofs.lemmas.Grind.{common_steps}
pub use Rattle.std.proofs.lemmas.Option.{get_or_from_slice_get, none-some, slice_get-get_or, slice_get-map, slice_get_cases, slice_get_read, slice_get_within}
pub use Rattle.std.specs.Borrow.{Bor}
pub use Rattle.std.specs.List.{list_any}
