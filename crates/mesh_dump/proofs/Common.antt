-- The names that the proofs of this crate cite of its definitions and of the crates below, passed on from one place.
pub use Rattle.hex.specs.Hex.{decode_of, hex_digit_value, is_hex_digit}
unfoldable pub use Rattle.hex.specs.Hex.{decode_pairs}
pub use Rattle.hex.specs.declared.error.FromHexError.{FromHexError}
pub use Rattle.hex.specs.declared.error.FromHexError.TheVariants.{InvalidHexCharacter, InvalidStringLength, OddLength, OutOfMemory}
pub use Rattle.memchr.specs.Find.{IsFirstByte, is_byte}
pub use Rattle.mesh_atoms.specs.declared.refusal.Refusal.{Refusal}
pub use Rattle.mesh_dump.specs.Dump.{AreFirstListings, AreListings, DumpMakes, LinesMake}
unfoldable pub use Rattle.mesh_dump.specs.Dump.{total_text}
unfoldable pub use Rattle.mesh_dump.specs.Empty.{empty_line}
pub use Rattle.mesh_dump.specs.Lines.{FrameSays, IsFirstOther, IsListing, IsNotHex, ReadsAs, refusals}
pub use Rattle.mesh_dump.specs.Pairs.{AreHexPairs, IsPair}
pub use Rattle.mesh_dump.specs.declared.digits.TheConstants.{HIGH, LOW}
pub use Rattle.mesh_dump.specs.declared.listing.LineCounts.{LineCounts}
pub use Rattle.mesh_io.proofs.Pieces.{all_behind, answers_stop, one_cut, one_put, pieces_more, stops_behind, stops_in}
pub use Rattle.mesh_io.specs.Pieces.{MakesOne}
pub use Rattle.mesh_report.proofs.Tables.{all_below, below}
pub use Rattle.mesh_report.proofs.Vectors.{lanes_chosen, lanes_of, lanes_with, none_set, picked}
pub use Rattle.mesh_report.specs.Packets.{IsLineText}
pub use Rattle.std.proofs.Common.{Bool, Err, IfOk, List, None, Ok, OnOk, Option, Result, Some, [], ap, append_assoc, arith, bit_or, codes, cond, decimal, drop, eq-eqb, eqb, false, get_or, inl, inr, leb, length, length-append, ltb, map, nat_eq, nat_le, nat_lt, position, refl, replicate, set, slice_index, slice_set, subst, suc, sym, take, true, w8, zero, ℕ, ◌%◌, ◌&&◌, ◌*◌, ◌++◌, ◌+◌, ◌-◌, ◌/◌, ◌<◌, ◌^◌, ◌||◌, ◌∙◌, ◌∷◌, ◌≡◌, ◌≤◌, ◌⊎◌}
pub use Rattle.std.proofs.lemmas.Bool.{and_parts, both_ways, cases_Bool, cases_eq, cases_lt, eqb-true, le-ltb, leb-false, leb-true, ltb-false, ltb-true, ne_eqb}
pub use Rattle.std.proofs.lemmas.Fmt.{decimal_digit, decimal_step, length-decimal-le}
pub use Rattle.std.proofs.lemmas.Grind.{common_steps}
pub use Rattle.std.proofs.lemmas.List.{append-nil, drop-drop, drop_all, drop_at, get_or-set_other, get_or-set_same, get_or-take, get_or_append_left, length-drop, length-map, length-set, length-take-le, set_at, take-append-drop, take_all, take_at}
pub use Rattle.std.proofs.lemmas.Nat.{le_or_l, le_or_r}
pub use Rattle.std.proofs.lemmas.Simd.{get_or-chunk, get_or-put_chunk_at, get_or-put_chunk_below, get_or-replicate, length-chunk, length-put_chunk, mask_l-mod, tops_compared, zip2_splat_left}
pub use Rattle.std.specs.List.{All, AllPass, after_first, concat, position_from, position_or_len}
pub use Rattle.std.specs.Option.{option_eq, option_map}
pub use Rattle.std.specs.Simd.Lanes.{mask_l, put_chunk}
pub use Rattle.std.specs.Str.Lines.{lines, lines_of_parts, strip_carriage_return}
