-- The names that the proofs of this crate cite of its definitions and of the crates below, passed on from one place.
pub use Rattle.hex.specs.Hex.{encode_lower, lower_digits}
unfoldable pub use Rattle.hex.specs.Hex.{encode_with}
pub use Rattle.mesh_atoms.proofs.Lists.{four_appended, three_appended, two_appended}
pub use Rattle.mesh_atoms.specs.declared.addr.NetAddr.{NetAddr}
pub use Rattle.mesh_packet.specs.Fields.{MessageFields, PacketFields, fields_of_block, fields_of_message, fields_of_packet}
pub use Rattle.mesh_packet.specs.Least.{Wrote}
pub use Rattle.mesh_packet.specs.declared.packet.Span.{Span}
pub use Rattle.mesh_report.specs.Digits.{AreDigits, HasDigits}
pub use Rattle.mesh_report.specs.Lines.{address_line, block_line, message_line}
unfoldable pub use Rattle.mesh_report.specs.Lines.{addr_tlv_line, packet_line, refused_line, tlv_line}
pub use Rattle.mesh_report.specs.Packets.{IsLineText, IsMessageText, IsMessagesText, IsPacketListed, IsRecode, IsRecodeLine}
unfoldable pub use Rattle.mesh_report.specs.Packets.{block_text, message_text, recode_line}
pub use Rattle.mesh_report.specs.Pieces.{valued}
unfoldable pub use Rattle.mesh_report.specs.Pieces.{numbered}
pub use Rattle.mesh_report.specs.Readings.{IsReading, ReadsMessage, TellsRead, hello_summary_line, tc_summary_line}
pub use Rattle.mesh_report.specs.declared.hexadecimal.TheConstants.{DIGITS}
pub use Rattle.mesh_tlv.proofs.Grows.{grows_none, grows_on}
pub use Rattle.mesh_tlv.specs.Fields.{addr_fields, fields}
pub use Rattle.mesh_tlv.specs.Least.{Grows}
pub use Rattle.mesh_wire.specs.Rules.{FirstBroken, Keeps}
pub use Rattle.std.proofs.Common.{Bool, Err, IfErr, IfOk, List, Ok, Option, Result, [], ap, append_assoc, arith, bit_and, codes, cond, decimal, drop, drop-cons, false, get_or, inl, inr, length, length-append, length-drop, map, nat_eq, refl, replicate, slice_index, subst, suc, sym, take, true, w8, zero, ℕ, ◌%◌, ◌&&◌, ◌*◌, ◌++◌, ◌+◌, ◌-◌, ◌/◌, ◌<◌, ◌^◌, ◌∙◌, ◌∷◌, ◌≡◌, ◌≤◌}
pub use Rattle.std.proofs.lemmas.Bool.{and_parts, cases_lt, eqb-true}
pub use Rattle.std.proofs.lemmas.Fmt.{decimal_digit, decimal_step, length-decimal-le}
pub use Rattle.std.proofs.lemmas.Grind.{common_steps}
pub use Rattle.std.proofs.lemmas.List.{append-nil, get_or-append_right, get_or-map, get_or_append_left, length-map}
pub use Rattle.std.proofs.lemmas.List.Folds.{flat_map-map}
pub use Rattle.std.proofs.lemmas.Result.{on_ok_weaker}
pub use Rattle.std.proofs.lemmas.Simd.{Each1-from_get_or, SwzOk-from_below, bit_mask_l, get_or-chunk, get_or-put_chunk_at, get_or-put_chunk_below, get_or-replicate, get_or-sel_l, get_or-swz_l_below, get_or-zip2, length-chunk, length-put_chunk, length-sel_l, length-swz_l, length-zip2, tops_compared}
pub use Rattle.std.specs.List.{flat_map}
pub use Rattle.std.specs.Simd.Lanes.{mask_l, pick_l, put_chunk, sel_l, top, zip2}
