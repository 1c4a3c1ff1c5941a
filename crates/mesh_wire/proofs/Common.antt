-- The names that the proofs of this crate cite of its definitions and of the crates below, passed on from one place.
pub use Rattle.mesh_addr.specs.Grammar.{AreAtMost, AreRaw, SpellsBlock, SpellsHead, SpellsMids, SpellsTail, prefixes}
pub use Rattle.mesh_addr.specs.declared.records.RawAddr.{RawAddr}
pub use Rattle.mesh_atoms.proofs.CodesLemmas.CodeLaws.{time-less, time_again}
pub use Rattle.mesh_atoms.proofs.Deciding.{Decides-some}
pub use Rattle.mesh_atoms.proofs.Lists.{all_pairs_cons, all_pairs_head, all_pairs_tail, contains_at, contains_cases, contains_head, contains_map, contains_map_cases, contains_none, contains_one, contains_tail, get_pushed, heads_equal, item_at, middle_range, place_in, place_of, tails_equal}
pub use Rattle.mesh_atoms.proofs.NetOrder.{net_exact, net_less, net_total}
pub use Rattle.mesh_atoms.proofs.Nets.{same_net}
pub use Rattle.mesh_atoms.proofs.Options.{cond_same, none_not, same_answer, same_ok, same_some, some_equal, some_of}
pub use Rattle.mesh_atoms.proofs.Rows.{same_metric}
pub use Rattle.mesh_atoms.proofs.Values.{at_most_itself, at_most_of_before, before_trans, not_before_itself, same_addr}
pub use Rattle.mesh_atoms.specs.Ascends.{ascends_prop}
pub use Rattle.mesh_atoms.specs.Codes.Codes.{IsSentCode, time_at_distance, time_value}
pub use Rattle.mesh_atoms.specs.Nodes.{IsAtMost, IsBefore, net_cmp}
pub use Rattle.mesh_atoms.specs.Octets.{address_in, short_in}
pub use Rattle.mesh_atoms.specs.Reading.{has}
pub use Rattle.mesh_atoms.specs.Validity.{Everywhere, IsTimeValue, Up_to}
pub use Rattle.mesh_atoms.specs.Writable.{AreOneType, HaveSenderAlone, HaveStatusWhole, HaveTypeWhole, IsAlone}
pub use Rattle.mesh_atoms.specs.declared.addr.Addr4.{Addr4}
pub use Rattle.mesh_atoms.specs.declared.addr.NetAddr.{NetAddr}
pub use Rattle.mesh_atoms.specs.declared.codes.metric.Metric.{Metric}
pub use Rattle.mesh_atoms.specs.declared.hello.Hello.{Hello}
pub use Rattle.mesh_atoms.specs.declared.hello.HelloRow.{HelloRow}
pub use Rattle.mesh_atoms.specs.declared.hello.LocalIf.{LocalIf}
pub use Rattle.mesh_atoms.specs.declared.hello.Willing.{Willing}
pub use Rattle.mesh_atoms.specs.declared.tc.Tc.{Tc}
pub use Rattle.mesh_atoms.specs.declared.tc.TcRow.{TcRow}
pub use Rattle.mesh_atoms.specs.declared.tlv_type.TheConstants.{CONT_SEQ_NUM, GATEWAY, INTERVAL_TIME, LINK_METRIC, LINK_STATUS, LOCAL_IF, MPR, MPR_WILLING, NBR_ADDR_TYPE, VALIDITY_TIME}
pub use Rattle.mesh_packet.specs.Fields.{BlockFields, MessageFields, PacketFields, fields_of_block, fields_of_message}
pub use Rattle.mesh_packet.specs.Grammar.{Spells, SpellsHeaderTlvs, SpellsMessage, SpellsNumber, SpellsOctet, SpellsOriginator, SpellsPair}
pub use Rattle.mesh_packet.specs.Least.{IsEncodableBlock, IsEncodableMessage, IsPaddedOriginator, LeastForm, LeastMessage, LeastPair, least_number, least_octet, least_originator}
pub use Rattle.mesh_packet.specs.declared.packet.Block.{Block}
pub use Rattle.mesh_packet.specs.declared.packet.Span.{Span}
pub use Rattle.mesh_tlv.specs.Fields.{AddrTlvFields, TlvFields, addr_fields, fields}
pub use Rattle.mesh_tlv.specs.Grammar.{HasEqualParts, SpellsAddrTlvBlock, SpellsTlvBlock}
pub use Rattle.mesh_tlv.specs.Items.{SpellsItems}
pub use Rattle.mesh_tlv.specs.Least.{IsFit, covers_all, is_several, least_addr_tlv, least_block, least_length, least_short, least_tlv, least_value, octet_if}
pub use Rattle.mesh_tlv.specs.declared.tlv.AddrTlv.{AddrTlv}
pub use Rattle.mesh_wire.specs.Answers.{GivesValue, IfBroken, ReadsOrRefuses, RefusesAt, Sums}
pub use Rattle.mesh_wire.specs.Collects.{AreCollected, PlacedNetwork}
pub use Rattle.mesh_wire.specs.Drafts.{FitsAlone, HasHelloValues, HasTcValues, IsCodeIfSome, IsCodeOf, IsHelloMessage, IsTcMessage, heading_of, octet_of, saying, whole}
pub use Rattle.mesh_wire.specs.Entries.{Entry, collected, entry_on, is_of, of_block, of_blocks, of_tlv, of_tlvs, put_said, standing, tellings}
pub use Rattle.mesh_wire.specs.Examples.{bare, local, lone, lone_hello, near, near_net, odd_types, own, own_block, own_net, own_row, pair, states, two_near, unknown}
pub use Rattle.mesh_wire.specs.Hello.{HasWilling, HelloIs, IsReadHelloRow, OriginatorIs, TellsOther, WillingIs, link_value, local_value, other_value, row_octet}
pub use Rattle.mesh_wire.specs.HelloHeading.{HelloHeaderIs, IsOther}
pub use Rattle.mesh_wire.specs.HelloRows.{hello_row, link_from, local_from, other_from, row_with, sender_row}
pub use Rattle.mesh_wire.specs.HelloRules.{BreaksHello, HopCount, HopLimit, TwoValues, Undefined, WrongWilling}
pub use Rattle.mesh_wire.specs.KeptParts.{has_other_length, has_same_code, is_flag_set, metric_at, metrics_also, no_parts, octet_in, octets_also, octets_if, shown_in, take_part}
pub use Rattle.mesh_wire.specs.Laws.{HasOctets, ReadsOrBreaks}
pub use Rattle.mesh_wire.specs.Lines.{column_text, columns, columns_text, flagged, hello_line, is_wide, kind_of, laid, metric_columns, most_of, narrow, octet_pair, tc_line, value_of, width_of}
pub use Rattle.mesh_wire.specs.Made.{BreakNone, BreaksFirst, HasBroken, HasKept}
pub use Rattle.mesh_wire.specs.Metrics.{HasTwoMetrics, HasWrongMetric, Link_in, Link_out, MetricIs, MetricKind, Near_in, Near_out, ShowsMetric, flag_of, metric_in, metric_kinds, metric_of}
pub use Rattle.mesh_wire.specs.OctetKinds.{IsOctetOf, IsStatusType, at, by_kind, flags_number, hello_kinds, is_value, is_within, kinds, statuses, tc_kinds, type_of}
pub use Rattle.mesh_wire.specs.Parts.{IsIn, octets_of, part_at, share_of, value_at, values_of}
pub use Rattle.mesh_wire.specs.Rehop.{CanHop, HasHop, IsElsewhere, after_hops, count_place, flags_of, has_count, hopped, hopped_at, limit_place, one_hop_on}
pub use Rattle.mesh_wire.specs.RowRules.{first_passed, first_rule, has_status, has_two, has_wrong_gateway, has_wrong_metric, has_wrong_type, hello_rule, hello_tests, is_undefined, rule_of, some_status, sooner, tc_rule, tc_tests}
pub use Rattle.mesh_wire.specs.Rows.{AreRows, HasOtherLength, HasPart, HasTwoValues, HasType, HasValue, HoldsAddress, HoldsAddressAt, OctetIs, SaysFlag}
pub use Rattle.mesh_wire.specs.Rules.{FirstBroken, IsLow, Keeps}
pub use Rattle.mesh_wire.specs.Runs.{Adds, AreBlocks, IsBlock, IsColumnTlv, Lays, LaysAll, LaysFirst, first_pair, has_part, have_pair, host_octets, is_same_pair, leading, present, raw_of, run_of}
pub use Rattle.mesh_wire.specs.Singles.{also, also_some, is_conflict, is_said, value_from}
pub use Rattle.mesh_wire.specs.Standing.{AreAt, ArePlacedNetworks, Ascend, IsKeyPut, IsRowOf, IsStood, IsTable, Rise, TellsRows, addresses, after, fresh, rank, take_at, tell}
pub use Rattle.mesh_wire.specs.Summaries.{hello_summary_of, tc_summary_of}
pub use Rattle.mesh_wire.specs.Tc.{ContentIs, IsReadTcRow, TcIs, contents_of}
pub use Rattle.mesh_wire.specs.TcHeading.{TcHeaderIs, contents_in, tc_row}
pub use Rattle.mesh_wire.specs.TcRules.{AddrType, AddressWidth, Beside, BreaksTc, Content, GatewayOctet, NoOriginator, NoSequence, NoValidity, ShortPrefix, TwoAddrTypes, TwoGateways, WrongInterval, WrongMetric}
pub use Rattle.mesh_wire.specs.Times.{HasTime, IntervalIs, ValidityIs, distance_of}
pub use Rattle.mesh_wire.specs.Values.{values_in}
pub use Rattle.mesh_wire.specs.Writes.{HasBriefBlocks, HasFlag, HasInterval, IsReadOfHello, IsReadOfHelloAddress, IsReadOfOther, IsReadOfTc, IsReadOfTcAddress, IsSoleMessage, ReadsBack, SpellsBriefly, WritesHello, WritesLeastHello, WritesLeastTc, WritesTc, alone}
pub use Rattle.mesh_wire.specs.declared.collect.AddressParts.{AddressParts}
pub use Rattle.mesh_wire.specs.declared.fault.WireFault.{WireFault}
pub use Rattle.mesh_wire.specs.declared.hello.HelloHeader.{HelloHeader}
pub use Rattle.mesh_wire.specs.declared.lines.AddressRecord.{AddressRecord}
pub use Rattle.mesh_wire.specs.declared.lines.AddressTlvKind.{AddressTlvKind}
pub use Rattle.mesh_wire.specs.declared.lines.AddressTlvKind.TheVariants.{LinkIn, LinkOut, NearIn, NearOut, Octet}
pub use Rattle.mesh_wire.specs.declared.octets.ByKind.{ByKind}
pub use Rattle.mesh_wire.specs.declared.octets.OctetKind.{OctetKind}
pub use Rattle.mesh_wire.specs.declared.octets.OctetKind.TheVariants.{Gateway, Link, Local, Mpr}
pub use Rattle.mesh_wire.specs.declared.octets.Octets.{Octets}
pub use Rattle.mesh_wire.specs.declared.parts.MetricParts.{MetricParts}
pub use Rattle.mesh_wire.specs.declared.parts.RowParts.{RowParts}
pub use Rattle.mesh_wire.specs.declared.rows.MessageSummary.{MessageSummary}
pub use Rattle.mesh_wire.specs.declared.singles.Single.{Single}
pub use Rattle.mesh_wire.specs.declared.singles.Single.TheVariants.{Absent, Conflict, Value}
pub use Rattle.mesh_wire.specs.declared.tc.TcHeader.{TcHeader}
pub use Rattle.std.proofs.Common.{All, AllPairs, Bool, Contains, Decides, Err, IfErr, IfOk, IsSome, IsTrue, List, None, Ok, Option, Result, Some, [], ap, append-nil, append_assoc, arith, cond, drop, false, filter, get_or, if◌then◌else◌, inl, inr, length, length-append, length-drop, length-take, lit<, lit≤, ltb, map, min, nat_eq, nat_le, nat_lt, not, refl, replicate, rules, set, slice_get, slice_index, slice_index_or, slice_range, slice_set, subst, suc, sym, take, true, unwrap_or, zero, ℕ, ◌%◌, ◌&&◌, ◌*◌, ◌++◌, ◌+◌, ◌-◌, ◌/◌, ◌<◌, ◌==◌, ◌^◌, ◌||◌, ◌↔◌, ◌∙◌, ◌∷◌, ◌≡◌, ◌≢◌, ◌≤◌, ◌⊎◌}
pub use Rattle.std.proofs.Math.Nat.{div-mul-le_self, mod-eq-sub-div-mul, mul-div_right, mul-mod_right}
pub use Rattle.std.proofs.Math.Seq.{drop-append_seam, get_or-append_seam, set-append_seam, take-append_seam}
pub use Rattle.std.proofs.lemmas.Bool.{and_from, and_parts, and_right, cases_Bool, cases_eq, cases_lt, eq-eqb, eqb-false, eqb-true, false≢true, iff_false, lt-ltb, ltb-true, ne_eqb, not_from_true, or_cases, or_left, or_parts, or_right}
pub use Rattle.std.proofs.lemmas.Grind.{common_steps, flat_map-append}
pub use Rattle.std.proofs.lemmas.List.{at_drop_more, drop-drop, drop_all, get_or-append-add, get_or-map, get_or-replicate, get_or_append_left, get_or_past, length-map, length_push, map-append, take-append-drop, take_all, take_more, take_rest}
pub use Rattle.std.proofs.lemmas.List.Elements.{All-contains, All-from_recursion, Contains-append_cases, Contains-append_left, Contains-append_right, Contains-push, Contains-push_cases}
pub use Rattle.std.proofs.lemmas.Option.{get_or_from_slice_get, slice_get-map, slice_get_within}
pub use Rattle.std.proofs.lemmas.Result.{IfOk-weaker, err_from_is_err_and, on_ok_weaker}
pub use Rattle.std.specs.List.{AllByRecursion, flat_map, list_any}
pub use Rattle.std.specs.Option.{is_none, is_some, option_copied, option_eq, option_map}
pub use Rattle.std.specs.Ordering.{is_lt, ordering_reverse}
pub use Rattle.std.specs.declared.cmp.Ordering.{Ordering}
pub use Rattle.std.specs.declared.cmp.Ordering.TheVariants.{Greater, Less}
