-- The names that the proofs of this crate cite of its definitions and of the crates below, passed on from one place.
pub use Rattle.mesh_addr.specs.Grammar.{IsWritable, padded}
pub use Rattle.mesh_addr.specs.Least.{IsLeast, WroteLeast}
pub use Rattle.mesh_addr.specs.declared.records.RawAddr.{RawAddr}
pub use Rattle.mesh_atoms.proofs.Given.{fails_on, given, given_so}
pub use Rattle.mesh_atoms.proofs.Lists.{all_read, heads_equal, single_of, tails_equal}
pub use Rattle.mesh_atoms.proofs.Reading.{Stands, Takes, behind, front_is, meets_bind, meets_if, octet_again, octet_cut, octet_takes, piece_again, piece_cut, piece_takes, range_length, short_again, short_cut, short_takes, stands_first, stands_next, takes_both, takes_none, takes_range, text_is, two_long}
pub use Rattle.mesh_atoms.specs.Grammar.{SpellsShort}
pub use Rattle.mesh_atoms.specs.Reading.{Fails, Reading, has, octet_at, piece_at, refuse, short_at, ◌>>=◌}
pub use Rattle.mesh_atoms.specs.declared.refusal.Refusal.{Refusal}
pub use Rattle.mesh_packet.specs.Fields.{BlockFields, MessageFields, PacketFields, fields_of_block, fields_of_decoded, fields_of_message, fields_of_packet}
pub use Rattle.mesh_packet.specs.Grammar.{BeginsPacket, BodyFault, FirstFault, HeadCut, MessageFault, PairFault, Spells, SpellsAddress, SpellsBody, SpellsHeaderTlvs, SpellsIf, SpellsMessage, SpellsMessageHead, SpellsMessages, SpellsNumber, SpellsOctet, SpellsOriginator, SpellsPair, count_cut, count_size, flags_cut, head_size, in_addr_tlvs, in_addrs, in_blocks, in_body, in_head, in_header_tlvs, in_message, in_tlvs, limit_cut, limit_size, no_octet, number_cut, originator_cut, originator_size, sequence_cut, sequence_size, size_cut, size_if, size_wrong, version, width_of}
pub use Rattle.mesh_packet.specs.Least.{IsEncodable, IsEncodableBlock, IsEncodableMessage, IsPaddedOriginator, LeastBody, LeastForm, LeastMessage, LeastPair, Passes, Wrote, as_encode_fault, has_tlvs, least_header_tlvs, least_number, least_octet, least_originator, packet_flags}
unfoldable pub use Rattle.mesh_packet.specs.Least.{least_head, message_flags}
pub use Rattle.mesh_packet.specs.Placed.{ArePlaced}
pub use Rattle.mesh_packet.specs.Reading.{octet_if, originator_if, short_if, spans_from}
unfoldable pub use Rattle.mesh_packet.specs.Reading.{address_at, body_at, flags_at, head_at, header_tlvs_at, if_flagged, message_at, messages_at, packet_of, pair_at, sized_at}
pub use Rattle.mesh_packet.specs.declared.packet.Span.{Span}
pub use Rattle.mesh_packet.specs.declared.read.MessageHeader.{MessageHeader}
pub use Rattle.mesh_tlv.proofs.Blocks.{block_again, block_refuses, block_takes}
pub use Rattle.mesh_tlv.proofs.Items.{IsReader, ItemsTook, Took, items_again, items_fault, items_take}
pub use Rattle.mesh_tlv.proofs.Tlvs.{addr_tlv_reader, tlv_reader}
pub use Rattle.mesh_tlv.specs.Fields.{TlvFields, fields}
pub use Rattle.mesh_tlv.specs.Grammar.{AddrTlvBlockFault, SpellsAddrTlv, SpellsTlv, SpellsTlvBlock, TlvBlockFault, TlvFault}
pub use Rattle.mesh_tlv.specs.Items.{FirstFaultAt, ItemsFault, SpellsItems, items_at}
pub use Rattle.mesh_tlv.specs.Least.{AreTooLong, flag, least_addr_tlv, least_block, least_short, least_tlv}
pub use Rattle.mesh_tlv.specs.Reading.{addr_tlv_at, block_at, tlv_at}
pub use Rattle.std.proofs.Common.{All, Bool, Err, IfOk, List, MatchResult, None, Ok, Option, Result, Some, [], ap, append_assoc, arith, drop, eqb, false, get_or, inl, inr, length, length-append, ltb, map, refl, replicate, slice_get, slice_range, subst, suc, sym, take, true, zero, ℕ, ◌%◌, ◌&&◌, ◌*◌, ◌++◌, ◌+◌, ◌-◌, ◌/◌, ◌<◌, ◌||◌, ◌∙◌, ◌∷◌, ◌≡◌, ◌≤◌, ◌⊎◌}
pub use Rattle.std.proofs.lemmas.Bool.{and_parts, eq-eqb, eqb-false, eqb-true, le-ltb, lt-ltb, ltb-false, ltb-true, or_cases, or_parts}
pub use Rattle.std.proofs.lemmas.Grind.{common_steps}
pub use Rattle.std.proofs.lemmas.List.{append-nil, get_or-append-add, get_or_append_left, get_or_past, length-drop, length-take, map_push, take-append-drop, take_all}
pub use Rattle.std.proofs.lemmas.List.Elements.{All-cons, All-head, All-nil, All-tail}
pub use Rattle.std.proofs.lemmas.Result.{IfOk-weaker, MatchResult-weaker, err_from_is_err_and, on_ok_weaker}
pub use Rattle.std.specs.List.{flat_map, sum_by, zip}
