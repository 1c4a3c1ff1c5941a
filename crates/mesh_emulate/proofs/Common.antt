-- The names that the proofs of this crate cite of its definitions and of the crates below, passed on from one place.
pub use Rattle.mesh_atoms.proofs.Options.{none_not, same_ok, same_some}
pub use Rattle.mesh_atoms.specs.Radio.{IsRadioGraph, RadioLeast, Router}
pub use Rattle.mesh_atoms.specs.Settings.{AreArcs, Ends, IsName, are_distinct, ends_eq, joins_routers, name_eq}
pub use Rattle.mesh_atoms.specs.Settled.{At, Settled}
pub use Rattle.mesh_atoms.specs.Sound.{Sound}
pub use Rattle.mesh_atoms.specs.State.{State}
pub use Rattle.mesh_atoms.specs.declared.addr.Addr4.{Addr4}
pub use Rattle.mesh_atoms.specs.declared.addr.NetAddr.{NetAddr}
pub use Rattle.mesh_atoms.specs.declared.graphs.RadioGraph.{RadioGraph}
pub use Rattle.mesh_atoms.specs.declared.graphs.Route.{Route}
pub use Rattle.mesh_atoms.specs.declared.network.NetEvent.{NetEvent}
pub use Rattle.mesh_atoms.specs.declared.settings.Interface.{Interface}
pub use Rattle.mesh_atoms.specs.declared.settings.RadioArc.{RadioArc}
pub use Rattle.mesh_atoms.specs.declared.settings.RouterSettings.{RouterSettings}
pub use Rattle.mesh_atoms.specs.declared.settings.Scenario.{Scenario}
pub use Rattle.mesh_config.proofs.Builds.{all_have, each_more}
pub use Rattle.mesh_config.proofs.Sounds.{counts_same, lists_same, sound_routers}
pub use Rattle.mesh_config.specs.Checks.Compared.{all_addrs, attaches_no_host, ends_of, router_addrs, same_attached, same_interface, same_router, stated_duplicates, stated_identifiers, stated_lists}
pub use Rattle.mesh_config.specs.Keys.Faults.{FailsAt, IfSettingRefused, fault, first, listed}
pub use Rattle.mesh_config.specs.Senders.{AddressLists, HaveAllQualities, HaveAllSenders, addr_lists, with_steps}
pub use Rattle.mesh_config.specs.Settings.{RouterSays, refusals}
pub use Rattle.mesh_config.specs.Stated.Router.{ArePlainFields, name, stated_interface_fields}
pub use Rattle.mesh_config.specs.declared.keys.fault.ConfigFault.{ConfigFault}
pub use Rattle.mesh_config.specs.declared.stated.stated.StatedRouter.{StatedRouter}
pub use Rattle.mesh_emulate.specs.Emulation.{AreEventTexts, But_the_probe, But_the_trip, By_name, By_settings, Emulation, EmulationMakes, IsEndSummary, IsFirstPart, IsPacketSent, IsProbed, IsRefused, Of_first_events, Of_nothing, States, TellsEvents, TellsWanted, piece_if, without_both}
pub use Rattle.mesh_emulate.specs.Laws.{EmulatedProbesSendOnce, PrintsLeastRoutes, PrintsNextHops, ProbesReachJoined, ProbesTellAll, ReachesJoined, RunsMachines, TellsAllReached, TellsSettled, TripsAreOnly, TripsNeverStray, TripsReachNetworks, TripsReachRouters, probing, reached_counts, sending}
pub use Rattle.mesh_emulate.specs.Making.Made.{AreRadioRoutes, IsEndText, IsMadeText, MadeEmulation, MadeNetworksRunMachines, MadeNetworksTellSettled, Reached, TellsLeastRoutes}
pub use Rattle.mesh_emulate.specs.Making.Pairs.{ArePairs, grid_pairs_of, joined_with, more_pairs, pair, pair_if, random_pairs, ring_pairs, same_pair, tree_pairs, word}
pub use Rattle.mesh_emulate.specs.Making.Routes.{IsGreatest, metrics_of}
pub use Rattle.mesh_emulate.specs.Making.Scenario.{AreMadeArcs, IsMade, IsMadeArc, IsMadeRouter, addr_of, face_of, name_of}
pub use Rattle.mesh_emulate.specs.Making.Stated.{AreStated, IsStated}
pub use Rattle.mesh_emulate.specs.Parts.{EndMakes, ErrandMakes, EventsMake, In_first, In_next, IsLastEvent, IsProbedText, IsTripText, MakesBoth, MakesWanted, Opened, RunWithPieces, Unopened, WholeRunMakes}
pub use Rattle.mesh_emulate.specs.Wants.{Agree, Departs, FirstUnknown, HasName, IsNamed, IsUnknownName, NamesKnown, NamesUnknown, Of_probe, Of_send, WantedPacket, Wants, start_of, wants_of}
pub use Rattle.mesh_emulate.specs.declared.making.kind.Kind.{Kind}
pub use Rattle.mesh_emulate.specs.declared.making.pairs.RouterPair.{RouterPair}
pub use Rattle.mesh_emulate.specs.declared.wanted.Departure.{Departure}
pub use Rattle.mesh_io.proofs.Fronts.{appends_none, keeps_same}
pub use Rattle.mesh_io.proofs.Pieces.{all_behind, one_cut, one_put, pieces_more, stops_behind, stops_in}
pub use Rattle.mesh_io.specs.Pieces.{MakesOne, PutsAll, PutsPieces}
pub use Rattle.mesh_io.specs.declared.stop.Stop.{Stop}
pub use Rattle.mesh_paths.proofs.SettledLaw.{settled_next_hops, settled_rows}
pub use Rattle.mesh_paths.specs.SettledRoutes.{IsSettledNetwork, LeadsOn}
pub use Rattle.mesh_probe.specs.Probes.{AreRoutersAt, IfDone, ProbesReach}
pub use Rattle.mesh_probe.specs.Text.{ArePeers, IsProbeText, is_reached, probe_counts, probe_end, probe_start, unreached_line}
pub use Rattle.mesh_probe.specs.declared.coverage.Coverage.{Coverage}
pub use Rattle.mesh_probe.specs.declared.coverage.Probe.{Probe}
pub use Rattle.mesh_probe.specs.declared.coverage.Probe.TheVariants.{Done, NoNumber}
pub use Rattle.mesh_settled.specs.Gaps.Network.{IsNetwork}
pub use Rattle.mesh_texts.proofs.Cuts.{lacks, lacks_both}
pub use Rattle.mesh_texts.proofs.Gaps.{gap_is}
pub use Rattle.mesh_texts.proofs.LineLists.{each_both, each_map, each_weaker}
pub use Rattle.mesh_texts.proofs.LineTexts.{begins_otherwise, counts_plain, line_after, line_end, nothing_plain, number}
pub use Rattle.mesh_texts.proofs.Marked.{name_lacks, router_name_lacks}
pub use Rattle.mesh_texts.proofs.ReadBack.{ends_settled, prints_rows, prints_rows_by, says_exactly, tells_whether}
pub use Rattle.mesh_texts.proofs.RunStates.{end_is_network, end_is_settled, final_count, routers_are_runs, run_states}
pub use Rattle.mesh_texts.proofs.machine.Through.{end_together, moves_of}
pub use Rattle.mesh_texts.specs.Printed.{ArePlain, Arrives, At_gateway, BeginsWith, Goes_on, IsLine, IsPlain, LeadsOnwards, LeadsThere, Prints, PrintsBy, SaysSettled}
pub use Rattle.mesh_texts.specs.Runs.{IsRunText, IsTrace, IsTraced, TellsWhetherSettled, Traces, WholeRun}
pub use Rattle.mesh_texts.specs.machine.Names.{router_name}
pub use Rattle.mesh_texts.specs.machine.Net.{NetState, NetStep}
pub use Rattle.mesh_texts.specs.machine.NetRun.{IsOfPackets, IsOpeningNet, IsOver, NetRun}
pub use Rattle.std.proofs.Common.{All, Bool, Contains, Err, IsSome, List, None, Ok, OnOk, Option, Result, Some, [], ap, append_assoc, arith, codes, decimal, false, filter, get_or, inl, inr, length, length-append, length-take, ltb, map, max, nat_eq, nat_lt, not, refl, slice_get, slice_index, subst, suc, sym, take, true, zero, ℕ, ◌%◌, ◌&&◌, ◌*◌, ◌++◌, ◌+◌, ◌-◌, ◌/◌, ◌<◌, ◌^◌, ◌↔◌, ◌∙◌, ◌∷◌, ◌≡◌, ◌≢◌, ◌≤◌}
pub use Rattle.std.proofs.lemmas.Bool.{and_from, and_left, and_parts, and_right, cases_Bool, cases_lt, eq-eqb, eqb-false, eqb-true, ltb-false, ltb-true, ne_eqb, not-true, not_from_false, or_from, or_parts, true≢false}
pub use Rattle.std.proofs.lemmas.Grind.{common_steps, flat_map-append}
pub use Rattle.std.proofs.lemmas.List.{append-nil, append_cancel_left, flat_map_more, get_or-map, length-map, map-append, map-id, map_more, take_all, take_more}
pub use Rattle.std.proofs.lemmas.List.Elements.{All-append, All-from_recursion, All-push, All-weaker, Contains-append_cases, Contains-append_left, Contains-append_right, Contains-get_or, recursion_from_All}
pub use Rattle.std.proofs.lemmas.List.Folds.{concat-append, flat_map-map, list_any-append}
pub use Rattle.std.proofs.lemmas.List.FromFn.{map-range_with_len_more}
pub use Rattle.std.proofs.lemmas.Option.{slice_get-get_or, slice_get_read, slice_get_within}
pub use Rattle.std.proofs.lemmas.Result.{IfOk-weaker}
pub use Rattle.std.specs.Cmp.Lexicographic.{bytes_decides}
pub use Rattle.std.specs.Io.KnownBytes.{Appends}
pub use Rattle.std.specs.List.{AllByRecursion, AllPairs, concat, flat_map, list_all, list_any, range_with_len}
pub use Rattle.toml.specs.Data.{Data, Members, no_members}
