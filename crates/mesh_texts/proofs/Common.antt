-- The names that the proofs of this crate cite of its definitions and of the crates below, passed on from one place.
pub use Rattle.hex.specs.Hex.{encode_lower, lower_digits}
unfoldable pub use Rattle.hex.specs.Hex.{encode_with}
pub use Rattle.mesh_atoms.proofs.Lists.{all_read, contains_at, contains_one, four_appended, heads_equal, tails_equal}
pub use Rattle.mesh_atoms.proofs.Lookups.{addr_equiv, has_found, link_equiv, same_addr, same_link}
pub use Rattle.mesh_atoms.proofs.Options.{not_both, same_some, some_equal}
pub use Rattle.mesh_atoms.specs.Base.{Base, Has, HasDistinctKeys, base_of}
pub use Rattle.mesh_atoms.specs.Settings.{IsName, is_name_octet, name_eq}
pub use Rattle.mesh_atoms.specs.Settled.{AreStates, At, Settled}
pub use Rattle.mesh_atoms.specs.State.{Bases, State, state_of}
pub use Rattle.mesh_atoms.specs.declared.addr.Addr4.{Addr4}
pub use Rattle.mesh_atoms.specs.declared.addr.NetAddr.{NetAddr}
pub use Rattle.mesh_atoms.specs.declared.gap.Gap.{Gap}
pub use Rattle.mesh_atoms.specs.declared.graphs.Route.{Route}
pub use Rattle.mesh_atoms.specs.declared.network.NetEvent.{NetEvent}
pub use Rattle.mesh_atoms.specs.declared.settings.Interface.{Interface}
pub use Rattle.mesh_atoms.specs.declared.settings.RadioArc.{RadioArc}
pub use Rattle.mesh_atoms.specs.declared.settings.RouterSettings.{RouterSettings}
pub use Rattle.mesh_atoms.specs.declared.settings.Scenario.{Scenario}
pub use Rattle.mesh_atoms.specs.declared.tuples.LinkKey.{LinkKey}
pub use Rattle.mesh_settled.proofs.machine.tlv.Grows.{grows_on}
unfoldable pub use Rattle.mesh_settled.specs.machine.Names.{router_name}
pub use Rattle.mesh_settled.specs.machine.Net.{Moves, NetState, NetStep, event_of, frames_of}
pub use Rattle.mesh_settled.specs.machine.NetRun.{NetRun, events_at}
pub use Rattle.mesh_settled.specs.machine.packet.Least.{Wrote}
pub use Rattle.mesh_settled.specs.machine.tlv.Least.{Grows}
pub use Rattle.mesh_texts.specs.Lines.Lines.{row_line}
unfoldable pub use Rattle.mesh_texts.specs.Lines.Lines.{flooding_line, held_line, link_line, neighbour_line, route_line, router_line, routing_line}
pub use Rattle.mesh_texts.specs.Lines.Marks.{faces_of, joined, line_of, name_of_face, spaced}
unfoldable pub use Rattle.mesh_texts.specs.Lines.Marks.{choice_text, dotted, face_name, metric_text, nearness_text, node_text, relays_text, slashed, status_text}
pub use Rattle.mesh_texts.specs.Lines.Pieces.{labelled_text, piece_text}
pub use Rattle.mesh_texts.specs.Network.{IsGapOf}
unfoldable pub use Rattle.mesh_texts.specs.Network.{counts_line, gap_line, key_text, settled_text}
pub use Rattle.mesh_texts.specs.Printed.{ArePlain, BeginsWith, IsLine, IsPlain, PrintsBy, SaysSettled, StandsUnder}
pub use Rattle.mesh_texts.specs.Runs.{IsRunText, IsTrace, RoutersAreRuns, TellsWhetherSettled, Traces, WholeRun}
pub use Rattle.mesh_texts.specs.Sections.Order.{IsLeastFrom, IsNext, nearer}
pub use Rattle.mesh_texts.specs.Sections.Section.{AreAllLinkLines, AreLinkLines, AreNeighbourLines, AreSections, AreTuplesFrom, IsSection, addr_number, link_number}
unfoldable pub use Rattle.mesh_texts.specs.Sections.Section.{ways_text}
unfoldable pub use Rattle.mesh_texts.specs.Trace.{event_line, event_text, flooding_relays_line, heard_line, loss_line, lost_line, relays_lines, routing_relays_line, sent_line, sent_lines, tick_line}
pub use Rattle.std.proofs.Common.{Bool, Contains, IfSome, IsNone, List, None, Option, Some, [], ap, append_assoc, arith, codes, cond, decimal, drop, false, get_or, inl, inr, is_some, length, length-append, length-set, ltb, map, nat_eq, not, option_map, refl, slice_get, slice_index, slice_index_or, subst, suc, sym, take, true, zero, ℕ, ◌%◌, ◌&&◌, ◌++◌, ◌+◌, ◌-◌, ◌/◌, ◌<◌, ◌==◌, ◌^◌, ◌↔◌, ◌∙◌, ◌∷◌, ◌≡◌, ◌≢◌, ◌≤◌, ◌⊎◌}
pub use Rattle.std.proofs.lemmas.Bool.{and_from, and_parts, eq-eqb, eqb-true, lt-leb, ltb-false, ltb-true, ne_eqb}
pub use Rattle.std.proofs.lemmas.Grind.{common_steps, flat_map-append}
pub use Rattle.std.proofs.lemmas.List.{append-nil, drop_all, drop_more, map-append}
pub use Rattle.std.proofs.lemmas.List.Elements.{All-append, All-from_recursion, All-nil, Contains-append_cases, Contains-append_right, Contains-get_or, recursion_from_All}
pub use Rattle.std.proofs.lemmas.List.Folds.{flat_map-map, list_all-append}
pub use Rattle.std.proofs.lemmas.Option.{slice_get-get_or, slice_get-map, slice_get_cases, slice_get_within}
pub use Rattle.std.specs.Fmt.{digit_glyph, digits_onto}
unfoldable pub use Rattle.std.specs.Fmt.{digits}
pub use Rattle.std.specs.List.{All, AllByRecursion, AllPairs, enumerate_from, flat_map, list_all, sum}
