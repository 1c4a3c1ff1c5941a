-- The names that the proofs of this crate cite of its definitions and of the crates below, passed on from one place.
pub use Rattle.mesh_atoms.proofs.Lists.{all_pairs_tail, contains_cases, contains_filter, contains_filter_cases, contains_flat_map, contains_flat_map_cases, contains_head, contains_none, contains_tail, get_pushed, length_pushed, none_within}
pub use Rattle.mesh_atoms.proofs.Options.{if_ok_weaker, same_some, some_equal}
pub use Rattle.mesh_atoms.proofs.Values.{same_addr, same_address}
pub use Rattle.mesh_atoms.specs.Advertised.{AreRowsBy, AreTcRows, GivesAsSelector, IsTcRow}
pub use Rattle.mesh_atoms.specs.Base.{Base, HasDistinctKeys, addr_eq, base_of}
pub use Rattle.mesh_atoms.specs.Hello.{IsHelloNow, IsRoundedUp}
pub use Rattle.mesh_atoms.specs.Live.{HasTables, Live}
pub use Rattle.mesh_atoms.specs.RelayGraphs.{AreRelays, AreRelaysOf, IsFloodingGraph, IsMetricOver, IsRoutingGraph}
pub use Rattle.mesh_atoms.specs.Relays.{Covers, HasDistinctIds, HasSameDistance, IsAsCheap, IsMissed, IsOtherRelay, IsRelay, IsWilling, Needed, Offers}
pub use Rattle.mesh_atoms.specs.Sound.{SoundNeighbourhood, SoundTopology}
pub use Rattle.mesh_atoms.specs.State.{Bases, HasLink, HasSymmetric, HasSymmetricWith, HasTwoHop, IsOriginator, Neighbourhood, NotedMessages, State, TopologyBase, is_symmetric, link_at, neighbour_at, state_of}
pub use Rattle.mesh_atoms.specs.Words.{IsAscending, Lists}
pub use Rattle.mesh_atoms.specs.Writable.{AreOneType, HaveStatusWhole, HaveTypeWhole, IsSentIfSome, IsSentTime}
pub use Rattle.mesh_atoms.specs.declared.addr.Addr4.{Addr4}
pub use Rattle.mesh_atoms.specs.declared.addr.NetAddr.{NetAddr}
pub use Rattle.mesh_atoms.specs.declared.codes.metric.Metric.{Metric}
pub use Rattle.mesh_atoms.specs.declared.graphs.Far.{Far}
pub use Rattle.mesh_atoms.specs.declared.graphs.Near.{Near}
pub use Rattle.mesh_atoms.specs.declared.graphs.NeighbourGraph.{NeighbourGraph}
pub use Rattle.mesh_atoms.specs.declared.hello.Hello.{Hello}
pub use Rattle.mesh_atoms.specs.declared.settings.RouterSettings.{RouterSettings}
pub use Rattle.mesh_atoms.specs.declared.settings.Times.{Times}
pub use Rattle.mesh_atoms.specs.declared.tc.TcRow.{TcRow}
pub use Rattle.mesh_atoms.specs.declared.tuples.Link.{Link}
pub use Rattle.mesh_atoms.specs.declared.tuples.LinkKey.{LinkKey}
pub use Rattle.mesh_atoms.specs.declared.tuples.Neighbour.{Neighbour}
pub use Rattle.mesh_atoms.specs.declared.tuples.Relays.{Relays}
pub use Rattle.mesh_bases.specs.Held.Reading.{Passed_by, ReadsTc, Taken_in}
pub use Rattle.mesh_bases.specs.Held.Taking.{kept_fates}
pub use Rattle.mesh_bases.specs.Reading.Content.{AreReadAs}
pub use Rattle.mesh_bases.specs.Reading.Message.{Hello_breaks, IsReadAs, IsReadAsBroken, Tc_breaks}
pub use Rattle.mesh_bases.specs.Selecting.{IsSelectorBy, selector_metric}
pub use Rattle.mesh_bases.specs.Sending.Sent.{HasRowsOf}
pub use Rattle.mesh_bases.specs.declared.derived.Derived.{Derived}
pub use Rattle.mesh_flood.specs.Noting.{AfterNote}
pub use Rattle.mesh_machine.proofs.Soundness.{live_bases_sound, messages_sound}
pub use Rattle.mesh_machine.proofs.Takes.{packet_spelled, takes_snoc}
pub use Rattle.mesh_machine.proofs.hello.Collect.{item_at, taken_more}
pub use Rattle.mesh_machine.specs.Frames.{octets_at, on_each}
pub use Rattle.mesh_machine.specs.Laws.{SoundBases}
pub use Rattle.mesh_machine.specs.Machine.{no_bases, no_relays}
pub use Rattle.mesh_machine.specs.Messages.{AreSpelled, ConsidersForwarding, Hello_broken, Hello_read, IsHeading, No_messages, Other_left, Other_passed, ProcessesTc, TakesMessage, TakesMessages, Tc_broken, Tc_passed, Tc_read, Tc_taken, forwarding, hello_read, only, other_read}
pub use Rattle.mesh_machine.specs.Sending.{First_part, Hellos_due, Hellos_early, IsHelloFrame, IsTcOfRows, No_part, SendsParts, Tcs_due, Tcs_early, Tcs_silent}
pub use Rattle.mesh_machine.specs.declared.arrival.Arrival.{Arrival}
pub use Rattle.mesh_machine.specs.declared.fate.Fate.{Fate}
pub use Rattle.mesh_machine.specs.declared.frame.Frame.{Frame}
pub use Rattle.mesh_nbrs.specs.Same.{SameNear, way_at}
pub use Rattle.mesh_packet.specs.Fields.{MessageFields, fields_of_message}
pub use Rattle.mesh_packet.specs.Grammar.{Spells, SpellsMessage}
pub use Rattle.mesh_packet.specs.declared.packet.Span.{Span}
pub use Rattle.mesh_routes.proofs.Listed.{IsListed, listed_by, listed_either, listed_one}
pub use Rattle.mesh_routes.proofs.Passes.{adds_all, adds_more, adds_one, adds_start}
pub use Rattle.mesh_routes.proofs.StayingLaw.{graphs_stay, routes_stay}
pub use Rattle.mesh_routes.specs.Passes.{Adds, Given, GivenByElement}
pub use Rattle.mesh_routes.specs.Staying.{SameTwoHops, SameWays}
pub use Rattle.mesh_topo.specs.Advertised.Selectors.{AreSelectors, HasSelector, IsSelectorOf}
pub use Rattle.mesh_topo.specs.Advertised.Spans.{AreSpans, part_of}
pub use Rattle.mesh_topo.specs.Same.{SameAdvertised}
pub use Rattle.mesh_topo.specs.declared.advertised.rows.Selector.{Selector}
pub use Rattle.mesh_topo.specs.declared.advertised.spans.PartSpan.{PartSpan}
pub use Rattle.mesh_wire.specs.TcRules.{AddressWidth, BreaksTc, ShortPrefix}
pub use Rattle.std.proofs.Common.{Bool, Contains, IfOk, IsTrue, List, None, Option, Result, Some, [], ap, arith, cond, drop, false, filter, get_or, inl, inr, length, map, nat_eq, not, option_map, refl, replicate, slice_get, slice_index, slice_range, subst, suc, sym, take, true, zero, ℕ, ◌%◌, ◌&&◌, ◌++◌, ◌+◌, ◌-◌, ◌<◌, ◌↔◌, ◌∙◌, ◌∷◌, ◌≡◌, ◌≢◌, ◌≤◌, ◌⊎◌}
pub use Rattle.std.proofs.lemmas.Bool.{cases_Bool, cases_eq, cases_lt}
pub use Rattle.std.proofs.lemmas.Grind.{common_steps}
pub use Rattle.std.proofs.lemmas.List.{append-nil, append_assoc, drop_more, get_or-map, length-map, length_push, take_all}
pub use Rattle.std.proofs.lemmas.List.Elements.{Contains-append_left, Contains-append_right, Contains-get_or}
pub use Rattle.std.proofs.lemmas.List.Kept.{AllPairs-cons, AllPairs-filter}
pub use Rattle.std.proofs.lemmas.Option.{none-some, slice_get-get_or, slice_get-map, slice_get_within}
