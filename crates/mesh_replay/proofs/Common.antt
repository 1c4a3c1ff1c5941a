-- The names that the proofs of this crate cite of its definitions and of the crates below, passed on from one place.
pub use Rattle.hex.specs.Hex.{decode_of, encode_lower}
pub use Rattle.mesh_atoms.proofs.Lists.{contains_none, heads_equal, item_at, length_pushed, one_part, set_here, tails_equal}
pub use Rattle.mesh_atoms.proofs.Options.{if_ok_weaker, none_not, same_answer}
pub use Rattle.mesh_atoms.specs.Literals.{address_of, cut, dotted_of, number_of}
pub use Rattle.mesh_atoms.specs.RelayGraphs.{AreRelays, AreRelaysOf}
pub use Rattle.mesh_atoms.specs.State.{Bases, HasAddressOn, HasSymmetricWith, Neighbourhood, NotedMessages, State, link_at, neighbour_at, state_of}
pub use Rattle.mesh_atoms.specs.Words.{IsAscending, IsValue}
pub use Rattle.mesh_atoms.specs.declared.addr.Addr4.{Addr4}
pub use Rattle.mesh_atoms.specs.declared.settings.Interface.{Interface}
pub use Rattle.mesh_atoms.specs.declared.settings.RouterSettings.{RouterSettings}
pub use Rattle.mesh_atoms.specs.declared.settings.Scenario.{Scenario}
pub use Rattle.mesh_atoms.specs.declared.tc.Tc.{Tc}
pub use Rattle.mesh_atoms.specs.declared.tc.TcRow.{TcRow}
pub use Rattle.mesh_atoms.specs.declared.tuples.Relays.{Relays}
pub use Rattle.mesh_bases.proofs.RowMoments.{rows_stay, some_or_none}
pub use Rattle.mesh_bases.specs.Held.RouterState.{router_state}
pub use Rattle.mesh_bases.specs.declared.derived.Derived.{Derived}
pub use Rattle.mesh_config.specs.Keys.Faults.{FailsAt, Fault, IfSettingRefused, fault, first}
pub use Rattle.mesh_config.specs.Settings.{FirstRefusal, refusals}
pub use Rattle.mesh_replay.specs.Checking.Cases.{AnyState, IsCase, IsProgress, LeadsPast, MayBeIn, StandsIn, TellsItems}
pub use Rattle.mesh_replay.specs.Checking.Events.{BeginsDerived, BeginsEvent, TakesDueLines}
pub use Rattle.mesh_replay.specs.Checking.Going.{FitsOrStops, NothingLeadsOn, StopsBefore, Went, at}
pub use Rattle.mesh_replay.specs.Checking.Kept.{AreAtRest, AreFewRows, HasLines, IsAtRest, IsSoundRouter, StandAgain, event_items, hello_items, sent_items, span_items, tc_items, with_relays}
pub use Rattle.mesh_replay.specs.Checking.Next.{EventBy, FindsNext, FindsNone, IsComing, IsNextEvent, LandsFrame, OpensAlone, opening_text}
pub use Rattle.mesh_replay.specs.Checking.Opening.{AreAtOpening, AreAtOpeningUpTo, IsAtFirstLine, IsOpeningProgress}
pub use Rattle.mesh_replay.specs.Checking.Reached.{HasRead}
pub use Rattle.mesh_replay.specs.Checking.RelayLines.{AreWide, HasRelays, HasTold, IsAgain, IsBegun, IsGraphFor, MayTell, StopsRelays, TellsFlooding, TellsRelays, relays_left, with_flooded}
pub use Rattle.mesh_replay.specs.Checking.Scenes.{Comes, IsReachedNet, IsSoundScene, net_of}
pub use Rattle.mesh_replay.specs.Checking.Sending.{GoesOut, HasAnsn, HasHello, HasTc, WritesSent, sent_front}
pub use Rattle.mesh_replay.specs.Checking.Texts.{IsNextText, IsStill, ReadsNext, ReadsText, TakesNext, TakesText, TookText, front_text, sent_text, told_text}
pub use Rattle.mesh_replay.specs.Command.Marks.{IsMarkLine, TellsNext, word_of}
pub use Rattle.mesh_replay.specs.Command.Parts.{BeginsReport, HasNoRule, HaveNone, IsCutAt, IsRule, IsRuled, IsSplit}
pub use Rattle.mesh_replay.specs.Command.Replays.{By_settings, IsAnswerText, IsRefusedInput, Long_scenario, No_trace, Replays}
unfoldable pub use Rattle.mesh_replay.specs.Command.Replays.{answer_line}
pub use Rattle.mesh_replay.specs.Traffic.Air.{AreNoEarlier, IsNextFrame, delivery_of}
pub use Rattle.mesh_replay.specs.declared.answer.Replay.{Replay}
pub use Rattle.mesh_replay.specs.declared.checking.case.Case.{Case}
pub use Rattle.mesh_replay.specs.declared.checking.case.CheckedEvent.{CheckedEvent}
pub use Rattle.mesh_replay.specs.declared.checking.case.Progress.{Progress}
pub use Rattle.mesh_replay.specs.declared.checking.next.ComingFrame.{ComingFrame}
pub use Rattle.mesh_replay.specs.declared.checking.next.NextEvent.{NextEvent}
pub use Rattle.mesh_replay.specs.declared.checking.router.Before.{Before}
pub use Rattle.mesh_replay.specs.declared.checking.router.EventLines.{EventLines}
pub use Rattle.mesh_replay.specs.declared.checking.scene.FirstTick.{FirstTick}
pub use Rattle.mesh_replay.specs.declared.checking.scene.Outcome.{Outcome}
pub use Rattle.mesh_replay.specs.declared.checking.scene.Outcome.TheVariants.{Fits, Over, Unfit}
pub use Rattle.mesh_replay.specs.declared.traffic.air.Delivered.{Delivered}
pub use Rattle.mesh_texts.specs.Lines.Marks.{joined, line_of, name_of_face, spaced}
unfoldable pub use Rattle.mesh_texts.specs.Lines.Marks.{dotted, face_name, relays_text}
pub use Rattle.mesh_texts.specs.Trace.{flooding_text, heard_line, lost_line, tick_line}
unfoldable pub use Rattle.mesh_texts.specs.Trace.{routing_relays_line, sent_line}
pub use Rattle.mesh_topo.specs.Advertised.Spans.{part_of}
pub use Rattle.mesh_topo.specs.declared.advertised.spans.PartSpan.{PartSpan}
pub use Rattle.mesh_trace.proofs.PositionsLemmas.RelayTexts.{AreAddresses, same_relays}
pub use Rattle.mesh_trace.proofs.PositionsLemmas.Walks.{leads_on}
pub use Rattle.mesh_trace.proofs.SpellingLemmas.Pairs.{is_nothing}
pub use Rattle.mesh_trace.proofs.machine.Arcs.{arc_ends}
pub use Rattle.mesh_trace.proofs.machine.FirstDue.{IsFirstOf, first_of_all, is_earlier, is_no_earlier, very_first}
pub use Rattle.mesh_trace.proofs.machine.Places.{each_more, mapped_at, none_past, same_at, set_at}
pub use Rattle.mesh_trace.proofs.machine.Sent.{first_and_others, numbered, sent_all}
pub use Rattle.mesh_trace.proofs.machine.Spreading.{Spreading, all_spread, on_carried, on_lost}
pub use Rattle.mesh_trace.specs.Positions.Alike.{HasAddresses}
pub use Rattle.mesh_trace.specs.Positions.Due.{Follows, HearsBy, Hellos_due, Hellos_early, Refused, Taken, TcsDue, Tcs_due, Tcs_early, Tcs_silent, TicksBy, none_told, part_items}
pub use Rattle.mesh_trace.specs.Positions.Items.{AreTcFrames, TellsFrame, TellsItem, Tells_flooding, Tells_frame, Tells_hello, Tells_loss, Tells_routing, Tells_tc, with_flooding, with_routing}
pub use Rattle.mesh_trace.specs.Positions.Leading.{At_line, Behind_all, IsUnfit, IsWholeTrace, LineLeads, Reaches, To_event, To_item}
pub use Rattle.mesh_trace.specs.Positions.Standing.{Flooding, Hello, IsDone, Item, Lost, Routing, Sent, TracePosition, relay_items, with_state, with_traffic}
pub use Rattle.mesh_trace.specs.Reading.Lines.{IsLineOf, begun, lines_of}
pub use Rattle.mesh_trace.specs.Reading.Readers.{IsReaderOf, IsRest, TakesLine, lines_from}
pub use Rattle.mesh_trace.specs.declared.reading.Reader.{Reader}
pub use Rattle.mesh_trace.specs.machine.Frames.{on_each}
pub use Rattle.mesh_trace.specs.machine.Machine.{IsOpening, due}
pub use Rattle.mesh_trace.specs.machine.Net.{HasOnlyLastTicks, HearsNext, IsFirstDue, IsSender, NetState, TicksNext}
pub use Rattle.mesh_trace.specs.machine.NetRun.{IsOpeningNet, IsOver}
pub use Rattle.mesh_trace.specs.machine.Sending.{HasToAdvertise, IsNextMoment, IsTcOfRows}
pub use Rattle.mesh_trace.specs.machine.Traffic.{Delivery, IsHeardFirst, Sends, Traffic, leaving, with_delivery, with_heard}
pub use Rattle.mesh_trace.specs.machine.declared.frame.Frame.{Frame}
pub use Rattle.std.proofs.Common.{All, Bool, Contains, Err, IfErr, IfOk, IfSome, IsTrue, List, MatchOption, None, Ok, OnOk, OnSome, Option, Result, Some, [], ap, append-nil, append_assoc, arith, below_more, codes, cond, decimal, drop, eqb, false, get_or, inl, inr, length, length-append, map, min, nat_eq, refl, rules, set-set, slice_get, slice_index, slice_range, slice_set, subst, suc, sym, take, true, true≢false, zero, ℕ, ◌%◌, ◌&&◌, ◌++◌, ◌+◌, ◌-◌, ◌<◌, ◌==◌, ◌^◌, ◌↔◌, ◌∙◌, ◌∷◌, ◌≡◌, ◌≢◌, ◌≤◌, ◌⊎◌}
pub use Rattle.std.proofs.lemmas.Bool.{and_parts, cases_Bool, cases_lt, eq-eqb, eqb-true, false≢true, lt-ltb}
pub use Rattle.std.proofs.lemmas.Bool.Decides.{Decides-eqb, not_from_Decides}
pub use Rattle.std.proofs.lemmas.Grind.{common_steps}
pub use Rattle.std.proofs.lemmas.List.{append_cancel_left, append_cancel_right, drop_all, drop_at, drop_more, get_or_append_left, get_or_default, get_or_push, length-drop, length-map, map-append, map-set, take_all}
pub use Rattle.std.proofs.lemmas.List.Elements.{All-append, All-cons, All-contains_itself, All-head, All-map, All-nil, All-push, All-tail, All-weaker}
pub use Rattle.std.proofs.lemmas.Option.{get_or_from_slice_get, slice_get-get_or, slice_get_read, slice_get_within}
pub use Rattle.std.proofs.lemmas.Slice.Eq.{slice_eq-Decides}
pub use Rattle.std.specs.List.{enumerate_from, position_from, remove}
