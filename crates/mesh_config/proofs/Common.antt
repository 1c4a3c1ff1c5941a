-- The names that the proofs of this crate cite of its definitions and of the crates below, passed on from one place.
pub use Rattle.mesh_atoms.proofs.Lists.{back_distinct, contains_at, contains_flat_map_at, front_distinct, length_pushed, one_part}
pub use Rattle.mesh_atoms.proofs.Options.{not_both, same_ok, same_some}
pub use Rattle.mesh_atoms.specs.Base.{addr_eq, net_eq}
pub use Rattle.mesh_atoms.specs.Literals.{address_of, endpoint_of, ◌>>=◌}
pub use Rattle.mesh_atoms.specs.Settings.{AreArcs, AreRouters, Ends, IsCount, are_ascending, are_distinct, are_senders, ends_eq, is_addressed, is_host, is_interface, joins_routers, name_eq}
pub use Rattle.mesh_atoms.specs.declared.addr.Addr4.{Addr4}
pub use Rattle.mesh_atoms.specs.declared.admit.QualityStep.{QualityStep}
pub use Rattle.mesh_atoms.specs.declared.codes.metric.Metric.{Metric}
pub use Rattle.mesh_atoms.specs.declared.settings.Attached4.{Attached4}
pub use Rattle.mesh_atoms.specs.declared.settings.Interface.{Interface}
pub use Rattle.mesh_atoms.specs.declared.settings.RadioArc.{RadioArc}
pub use Rattle.mesh_atoms.specs.declared.settings.RouterSettings.{RouterSettings}
pub use Rattle.mesh_atoms.specs.declared.settings.SenderMetric.{SenderMetric}
pub use Rattle.mesh_atoms.specs.declared.settings.Times.{Times}
pub use Rattle.mesh_config.specs.Built.{BuiltFrom, stated_visits}
pub use Rattle.mesh_config.specs.Checks.Checks.{Identifiers, NamedInterface, arc_ends, duplicate_unless, duplicates, ends, find_place, joined, joins, known_place, new_ends, places_table, scenario_visits, table_identifiers, tables_in, ◌>>?◌}
pub use Rattle.mesh_config.specs.Checks.Compared.{all_addrs, arc_fields, arc_places, attaches_no_host, ends_of, router_addrs, same_attached, same_interface, same_router, stated_duplicates, stated_identifiers, stated_lists, stated_place}
pub use Rattle.mesh_config.specs.Fields.{AreOfOneRouter, CostFields, IsClear, RouterParts, interface_costs, interface_fields, settings_parts, stated_parts, threshold_pair, thresholds_of}
pub use Rattle.mesh_config.specs.Keys.Faults.{FailsAt, Fault, ReadValue, ValueOrFault, bad_value, fault, first, listed, then_turned, visit}
pub use Rattle.mesh_config.specs.Keys.Ports.{port_of}
pub use Rattle.mesh_config.specs.Keys.Values.{SaysNothing, all_of, first_unknown, inner_visits, items_list, table_read, text, ticks}
pub use Rattle.mesh_config.specs.RunSettings.{CostsSay, SetupFrom, SetupSays, addr_in, neighbour_addrs, run_checks, same_neighbour, senders_checked, setup_visits, stated_costs, stated_run_checks, the_router}
pub use Rattle.mesh_config.specs.RunTables.Run.{CostsAre, HasOfEach, PortSays, RunInterfacesAre, RunIs, RunRouterIs, StatedNeighbourIs, address, neighbours, run_interface_visits, run_table_visits}
pub use Rattle.mesh_config.specs.Senders.{AddressLists, EachAt, HasQualities, HasSenders, HaveAllQualities, HaveAllSenders, HaveNoDuplicates, HaveQualities, HaveSenders, addr_lists, first_addr, qualities_to, quality_by, sender_by, sender_pair, senders_to, stated_steps, steps_at, with_metric, with_quality, with_steps}
pub use Rattle.mesh_config.specs.Stated.Router.{AreRouterFields, InterfaceFields, InterfaceIs, RouterIs, addresses, interfaces, stated_interface_fields}
pub use Rattle.mesh_config.specs.Stated.Rules.{AreThresholds, NearHoldIs, hops, near_hold_ms, near_hold_visits}
pub use Rattle.mesh_config.specs.Stated.Scenario.{ArcIs, AreArcFields, ScenarioIs, arcs, routers, scenario_table_visits, stated_arc_fields, sub_times, times_table}
pub use Rattle.mesh_config.specs.Stated.Steps.{StepIs, StepsAre, at_ms, quality_pair, quality_value, step_visits}
pub use Rattle.mesh_config.specs.Stated.Tables.{Each, element_visits, no_less, numbered_visits, one_above, rising_visits, table_of, tables_visits}
pub use Rattle.mesh_config.specs.Stated.Times.{TimesIs, times_visits}
pub use Rattle.mesh_config.specs.declared.keys.fault.ConfigFault.{ConfigFault}
pub use Rattle.mesh_config.specs.declared.stated.stated.StatedArc.{StatedArc}
pub use Rattle.mesh_config.specs.declared.stated.stated.StatedInterface.{StatedInterface}
pub use Rattle.mesh_config.specs.declared.stated.stated.StatedRouter.{StatedRouter}
pub use Rattle.std.proofs.Common.{All, Bool, Contains, Err, IfOk, IsTrue, List, None, Ok, Option, Result, Some, [], ap, arith, codes, cond, drop, false, get_or, if◌then◌else◌, le-leb, length, lit≤, map, nat_eq, nat_le, nat_lt, not, option_map, position, refl, slice_index, string_bytes, subst, suc, sym, take, true, zero, ℕ, ◌&&◌, ◌++◌, ◌+◌, ◌<◌, ◌∙◌, ◌∷◌, ◌≡◌, ◌≤◌}
pub use Rattle.std.proofs.lemmas.Bool.{and_from, and_parts, false_from_ne_true, lt-ltb, ltb-false, or_parts}
pub use Rattle.std.proofs.lemmas.Grind.{common_steps, flat_map-append}
pub use Rattle.std.proofs.lemmas.Iterator.Adapters.{position_from-zero}
pub use Rattle.std.proofs.lemmas.List.{append-nil, drop_more, length-map, length-take-le, map-append, map_more, take_more}
pub use Rattle.std.proofs.lemmas.List.Folds.{flat_map-map, list_all-append, list_all-map, list_any-append}
pub use Rattle.std.proofs.lemmas.Option.{slice_get-map, slice_get_read}
pub use Rattle.std.proofs.lemmas.Simd.{map-map}
pub use Rattle.std.specs.List.{flat_map, list_all, list_any, position_from, slice_get}
pub use Rattle.toml.proofs.Views.{Entry, table_get}
pub use Rattle.toml.specs.Data.{Data, Members}
pub use Rattle.toml.specs.View.{items_of, members_view, table_view, view}
pub use Rattle.toml.specs.declared.value.Value.{Value}
