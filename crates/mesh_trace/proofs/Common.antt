-- The names that the proofs of this crate cite of its definitions and of the crates below, passed on from one place.
pub use Rattle.mesh_addr.specs.Grammar.{AreRaw, IsWritable}
pub use Rattle.mesh_addr.specs.declared.records.RawAddr.{RawAddr}
pub use Rattle.mesh_atoms.proofs.Equal.{least_only, same_neighbour}
pub use Rattle.mesh_atoms.proofs.Lists.{contains_at, contains_cases, contains_map, contains_map_cases, contains_none, heads_equal, item_at}
pub use Rattle.mesh_atoms.proofs.Lookups.{addr_equiv, address_equiv, has_found, has_found_on, link_equiv, network_equiv, router_equiv, same_addr, same_link, same_two_hop, two_hop_equiv}
pub use Rattle.mesh_atoms.proofs.Reading.{behind, next_is, stands_next, text_is}
pub use Rattle.mesh_atoms.proofs.Values.{addr_itself, one_originator}
pub use Rattle.mesh_atoms.specs.Advertised.{AreParts, AreTcRows, GivesAsSelector, IsRowBy}
pub use Rattle.mesh_atoms.specs.AfterHello.{AfterHello, BecomesOther, By_none, By_row, GoesOn, IsTheirs, Joins, LinkKeptOrMade, Made, New_link, Remains, Same_link, Stood, StoodOn, TellsTwoHop, announced, by_status, renewed, row_makes}
pub use Rattle.mesh_atoms.specs.AfterTc.{AfterTc, Becomes, Full_of, Given, GivesAddress, GivesNetwork, GivesRouter, IsOld, Is_old, Left, TakesTc, TcAnswer, Too_old, first_overfull, if_not_dropped}
pub use Rattle.mesh_atoms.specs.Base.{Base, Expires, Has, HasDistinctKeys, Same, addr_eq, address_eq, base_of, find, flood_eq, host, if_live, link_eq, network_eq, router_eq}
pub use Rattle.mesh_atoms.specs.Hello.{HasLinkTo, IsHelloNow, IsHelloRow, IsRoundedUp, Link_heard, Link_in, Link_lost, Link_out, Link_symmetric, Near_in, Near_out, Other_if, Other_lost, Other_symmetric, Part, Says, SaysLink, This_if, link_part, local_part, other_part}
pub use Rattle.mesh_atoms.specs.HelloTold.{IsHandedIn, IsListed, IsMyStatus, IsSending, LooksAt, Tells, Told}
pub use Rattle.mesh_atoms.specs.Live.{HasLinkOf, HasSymmetricOf, IsSymmetricAddress, KeepsNeighbour, Live, LiveNeighbourhood, LiveNoted, LiveTopology, Restores, SettlesLost, is_symmetric_at, is_symmetric_entry, trim}
pub use Rattle.mesh_atoms.specs.Nodes.{IsBefore, net_cmp}
pub use Rattle.mesh_atoms.specs.Reading.{Fails, has}
pub use Rattle.mesh_atoms.specs.RelayGraphs.{AreRelays, AreRelaysOf, IsFloodingGraph, IsRoutingGraph}
pub use Rattle.mesh_atoms.specs.Sound.{SoundNeighbourhood, SoundNoted, SoundTopology}
pub use Rattle.mesh_atoms.specs.State.{Bases, HasAddressOn, HasLink, HasSymmetric, HasTwoHop, IsOriginator, Neighbourhood, NotedMessages, State, TopologyBase, link_at, lost_at, neighbour_at, two_hop_at}
pub use Rattle.mesh_atoms.specs.TakesHello.{AreTwoHopRows, Breaks, FitsTwoHops, HelloAnswer, IsFault, IsFullOfAddresses, IsFullOfTwoHops, IsHeld, IsNameless, Overfull, Overfull_two_hops, Takes, TakesHello}
pub use Rattle.mesh_atoms.specs.Validity.{Far, IsLeastCode, IsValidity, Near}
pub use Rattle.mesh_atoms.specs.Words.{IsKept, IsValue, Lists}
pub use Rattle.mesh_atoms.specs.declared.addr.Addr4.{Addr4}
pub use Rattle.mesh_atoms.specs.declared.addr.NetAddr.{NetAddr}
pub use Rattle.mesh_atoms.specs.declared.codes.metric.Metric.{Metric}
pub use Rattle.mesh_atoms.specs.declared.graphs.NeighbourGraph.{NeighbourGraph}
pub use Rattle.mesh_atoms.specs.declared.graphs.Route.{Route}
pub use Rattle.mesh_atoms.specs.declared.hello.Hello.{Hello}
pub use Rattle.mesh_atoms.specs.declared.hello.HelloRow.{HelloRow}
pub use Rattle.mesh_atoms.specs.declared.hello.LinkStatus.{LinkStatus}
pub use Rattle.mesh_atoms.specs.declared.hello.LocalIf.{LocalIf}
pub use Rattle.mesh_atoms.specs.declared.network.Emission.{Emission}
pub use Rattle.mesh_atoms.specs.declared.network.NetEvent.{NetEvent}
pub use Rattle.mesh_atoms.specs.declared.settings.Interface.{Interface}
pub use Rattle.mesh_atoms.specs.declared.settings.RadioArc.{RadioArc}
pub use Rattle.mesh_atoms.specs.declared.settings.RouterSettings.{RouterSettings}
pub use Rattle.mesh_atoms.specs.declared.settings.Scenario.{Scenario}
pub use Rattle.mesh_atoms.specs.declared.tc.Tc.{Tc}
pub use Rattle.mesh_atoms.specs.declared.tc.TcRow.{TcRow}
pub use Rattle.mesh_atoms.specs.declared.tuples.Link.{Link}
pub use Rattle.mesh_atoms.specs.declared.tuples.LinkKey.{LinkKey}
pub use Rattle.mesh_atoms.specs.declared.tuples.Neighbour.{Neighbour}
pub use Rattle.mesh_atoms.specs.declared.tuples.Relays.{Relays}
pub use Rattle.mesh_atoms.specs.declared.tuples.TwoHop.{TwoHop}
pub use Rattle.mesh_atoms.specs.declared.tuples.TwoHopKey.{TwoHopKey}
pub use Rattle.mesh_packet.specs.Fields.{BlockFields, MessageFields, PacketFields, fields_of_block, fields_of_message, fields_of_packet}
pub use Rattle.mesh_packet.specs.Grammar.{SpellsPair}
pub use Rattle.mesh_packet.specs.declared.packet.Block.{Block}
pub use Rattle.mesh_texts.proofs.Cuts.{first_cut, has_mark, lacks, lacks_both, lacks_rest, not_here}
pub use Rattle.mesh_texts.proofs.Marked.{dotted_lacks, hex_lacks, name_lacks, own_name_lacks, relays_lack, router_name_lacks}
pub use Rattle.mesh_texts.proofs.machine.Opening.{opening_sound}
pub use Rattle.mesh_texts.proofs.machine.Originators.{some_interface, some_originator}
pub use Rattle.mesh_texts.proofs.machine.Places.{each_more, same_at, set_at, set_here}
pub use Rattle.mesh_texts.proofs.machine.Sent.{sent_lost}
pub use Rattle.mesh_texts.proofs.machine.Soundness.{bases_of, live_bases_sound, message_sound, messages_sound}
pub use Rattle.mesh_texts.proofs.machine.packet.Encodable.{AreOctets, back_octets, front_octets, octets_back}
pub use Rattle.mesh_texts.proofs.machine.packet.OneReading.{not_both, one_packet}
pub use Rattle.mesh_texts.proofs.machine.topo.AdvertisedLemmas.Advertising.{same_row}
pub use Rattle.mesh_texts.proofs.machine.wire.OneHello.{one_hello}
pub use Rattle.mesh_texts.proofs.machine.wire.OneTc.{one_tc}
pub use Rattle.mesh_texts.proofs.machine.wire.RowLines.{one_row}
pub use Rattle.mesh_texts.specs.Lines.Marks.{dotted, face_name, faces_of, spaced}
unfoldable pub use Rattle.mesh_texts.specs.Lines.Marks.{relays_text}
pub use Rattle.mesh_texts.specs.Runs.{IsTraced, Traces}
pub use Rattle.mesh_texts.specs.Trace.{IsEventText, Of_refused, Of_taken, flooding_text, happened_line}
unfoldable pub use Rattle.mesh_texts.specs.Trace.{event_line, event_text, flooding_relays_line, heard_line, loss_line, lost_line, relays_lines, routing_relays_line, sent_line, sent_lines, tick_line}
pub use Rattle.mesh_texts.specs.machine.Frames.{octets_at, on_each}
pub use Rattle.mesh_texts.specs.machine.Laws.{SoundBases}
pub use Rattle.mesh_texts.specs.machine.Machine.{Event, Hear, Heard_frame, Hears, HearsPacket, IsOpening, Step, Tick, Ticked, TicksAt, due}
pub use Rattle.mesh_texts.specs.machine.Messages.{AreSpelled, ConsidersForwarding, First_message, Hello_broken, Hello_read, IsHeading, No_messages, Other_left, Other_passed, ProcessesTc, TakesMessage, TakesMessages, Tc_broken, Tc_passed, Tc_read, Tc_taken, forwarding, is_processed}
pub use Rattle.mesh_texts.specs.machine.Net.{Delivers, HasOnlyLastTicks, HearsNext, IsFirstDue, IsSender, Moves, NetState, NetStep, TicksNext, event_of, frames_of, happening}
pub use Rattle.mesh_texts.specs.machine.NetRun.{IsOver}
pub use Rattle.mesh_texts.specs.machine.Renewal.{IsEmptied, IsNextAnsn, Renews}
pub use Rattle.mesh_texts.specs.machine.Sendable.{IsPacket}
pub use Rattle.mesh_texts.specs.machine.Sending.{First_part, HasToAdvertise, IsHelloFrame, IsNextMoment, IsTcOfRows, No_part, SendsHellos, SendsParts, SendsTcs}
pub use Rattle.mesh_texts.specs.machine.Traffic.{Carries, Delivery, IsHeardFirst, Loses, No_arcs, Sends, SendsAll, Spreads, Traffic, frame_of, leaving, with_delivery, with_heard, with_loss, with_sent}
pub use Rattle.mesh_texts.specs.machine.declared.arrival.Arrival.{Arrival}
pub use Rattle.mesh_texts.specs.machine.declared.fate.Fate.{Fate}
pub use Rattle.mesh_texts.specs.machine.declared.frame.Frame.{Frame}
pub use Rattle.mesh_texts.specs.machine.flood.Verdict.{forward_of, has_no_hops, if_linked, if_noted, is_forwarded, is_received, key_of, process_of}
pub use Rattle.mesh_texts.specs.machine.flood.declared.verdict.Forward.{Forward}
pub use Rattle.mesh_texts.specs.machine.flood.declared.verdict.Heading.{Heading}
pub use Rattle.mesh_texts.specs.machine.packet.Grammar.{FirstFault, Spells, SpellsMessage, SpellsOctet, SpellsOriginator}
pub use Rattle.mesh_texts.specs.machine.packet.declared.packet.Span.{Span}
pub use Rattle.mesh_texts.specs.machine.wire.Hello.{OriginatorIs}
pub use Rattle.mesh_texts.specs.machine.wire.Parts.{number_of}
pub use Rattle.mesh_texts.specs.machine.wire.Rehop.{flags_of, hopped, one_hop_on}
pub use Rattle.mesh_texts.specs.machine.wire.Tc.{TcIs}
pub use Rattle.mesh_texts.specs.machine.wire.Writes.{IsSoleMessage, WritesHello, WritesTc}
pub use Rattle.mesh_tlv.specs.Fields.{AddrTlvFields, TlvFields, addr_fields, fields}
pub use Rattle.mesh_tlv.specs.Items.{SpellsItems}
pub use Rattle.mesh_tlv.specs.Least.{IsFit, flag}
pub use Rattle.mesh_tlv.specs.declared.tlv.AddrTlv.{AddrTlv}
pub use Rattle.mesh_tlv.specs.declared.tlv.Tlv.{Tlv}
pub use Rattle.mesh_trace.specs.Positions.Alike.{Alike, AlikeBases, AlikeNear, AlikeNoted, AlikeStates, AlikeTopology, HasAddresses, IsSoundPosition}
pub use Rattle.mesh_trace.specs.Positions.Due.{Follows, HearsBy, HellosDue, Hellos_due, Hellos_early, Refused, Taken, TakesPacket, TcsDue, Tcs_due, Tcs_early, Tcs_silent, TicksBy, none_told, part_items}
pub use Rattle.mesh_trace.specs.Positions.Events.{By_delivery, By_last_tick, By_tick, OpensEvent, OpensHearing, OpensTick}
pub use Rattle.mesh_trace.specs.Positions.Items.{AreTcFrames, TellsFrame, TellsItem, Tells_flooding, Tells_frame, Tells_hello, Tells_loss, Tells_routing, Tells_tc, with_flooding, with_routing}
pub use Rattle.mesh_trace.specs.Positions.Laws.{AllElseIsFixed, LeadsAlike, LeadsFromAlike, MessagesAreFixed, NoneIsLonger, NothingFollows, OneDecidesEnd, OneDecidesFit, OneUnfit, PositionsAreSound, PositionsHaveAddresses, RunsAreWhole, UnfitIsNotWhole, WholeExactlyForRuns, WholeTracesAreRuns}
pub use Rattle.mesh_trace.specs.Positions.Leading.{At_line, Behind_all, Fits, IsWholeTrace, LeadsBy, LineLeads, Reaches, To_event, To_item}
pub use Rattle.mesh_trace.specs.Positions.Standing.{Flooding, IsDone, IsFirstPosition, Item, Lost, Routing, Sent, TracePosition, relay_items, with_state, with_traffic}
pub use Rattle.mesh_trace.specs.Reading.Lines.{IsLineOf, begun, lines_of}
pub use Rattle.mesh_trace.specs.Reading.Readers.{IsRest, lines_from}
pub use Rattle.mesh_trace.specs.Spelling.Looks.{IsLocal, LooksHello, LooksTc, Saying, SaysHello, SaysOnly, SaysTc, TellsOnly}
pub use Rattle.mesh_wire.specs.Hello.{HelloIs, local_value}
pub use Rattle.mesh_atoms.specs.declared.tlv_type.TheConstants.{LOCAL_IF}
pub use Rattle.mesh_wire.specs.Parts.{IsIn, octets_of, value_at}
pub use Rattle.mesh_wire.specs.Rows.{HasPart, HasType, HoldsAddress, OctetIs}
pub use Rattle.mesh_wire.specs.Rules.{Keeps}
pub use Rattle.mesh_wire.specs.Writes.{HasBriefBlocks, IsReadOfHello, IsReadOfHelloAddress, IsReadOfOther, IsReadOfTc, IsReadOfTcAddress, SpellsBriefly, alone}
pub use Rattle.std.proofs.Common.{All, Bool, Contains, Decides, Err, IfSome, IsNone, IsSome, IsTrue, List, None, Ok, Option, Result, Some, [], add-one, ap, append_assoc, arith, codes, cond, count_by, decimal, drop, eqb, false, if◌then◌else◌, inl, inr, length, length-append, ltb, map, min, nat_eq, nat_le, nat_lt, not, refl, rules, set-set, slice_get, slice_index, slice_index_or, slice_range, slice_set, subst, suc, sym, take, true, zero, ℕ, ◌%◌, ◌&&◌, ◌++◌, ◌+◌, ◌-◌, ◌/◌, ◌<◌, ◌^◌, ◌↔◌, ◌∙◌, ◌∷◌, ◌≡◌, ◌≢◌, ◌≤◌, ◌⊎◌}
pub use Rattle.std.proofs.Math.Seq.{take-append_seam}
pub use Rattle.std.proofs.lemmas.Bool.{and_parts, cases_Bool, cases_lt, eqb-false, eqb-true, false≢true, le-leb, leb-true, ltb-false, ltb-true, ne_eqb, or_left, or_right}
pub use Rattle.std.proofs.lemmas.Bool.Decides.{Decides-and, Decides-eqb, Decides-like, not_from_Decides}
pub use Rattle.std.proofs.lemmas.Grind.{common_steps}
pub use Rattle.std.proofs.lemmas.List.{append-nil, append_cancel_left, append_cancel_right, at_drop_more, drop-map, drop_all, get_or_past, length-drop, length-map, map-append, take_all}
pub use Rattle.std.proofs.lemmas.List.Elements.{All-cons, All-contains, All-head, All-nil, All-tail, Contains-append_cases, Contains-append_left, Contains-append_right}
pub use Rattle.std.proofs.lemmas.List.Sorted.{answers_always, searchable_from_sorted}
pub use Rattle.std.proofs.lemmas.Option.{get_or_from_slice_get, slice_get-get_or, slice_get_within}
pub use Rattle.std.proofs.lemmas.Result.{IfOk-weaker}
pub use Rattle.std.proofs.lemmas.Slice.Eq.{slice_eq-Decides}
pub use Rattle.std.specs.Cmp.{IsEquivalence, booleans_Decides}
pub use Rattle.std.specs.List.{AllPairs, enumerate_from, flat_map, list_any}
pub use Rattle.std.specs.Option.{is_some, option_eq, option_map}
