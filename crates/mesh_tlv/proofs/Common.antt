-- The names that the proofs of this crate cite of its definitions and of the crates below, passed on from one place.
pub use Rattle.mesh_atoms.proofs.Given.{given, given_so}
pub use Rattle.mesh_atoms.proofs.Reading.{Takes, meets_bind, meets_if, next_is, octet_again, octet_cut, octet_takes, range_length, range_nil, short_again, short_cut, short_takes, takes_both, takes_none, takes_range, text_is, two_long}
pub use Rattle.mesh_atoms.specs.Grammar.{SpellsShort}
pub use Rattle.mesh_atoms.specs.Reading.{Fails, Reading, has, octet_at, refuse, short_at, ◌>>=◌}
pub use Rattle.mesh_atoms.specs.declared.refusal.Refusal.{Refusal}
pub use Rattle.mesh_tlv.specs.Fields.{AddrTlvFields, TlvFields, addr_block_fields, addr_fields, block_fields, fields, indexed, unindexed}
pub use Rattle.mesh_tlv.specs.Grammar.{AddrTlvBlockFault, Divides, Extends, HasEqualParts, Indexes, IsBroken, IsCut, Opens, SpellsAddrTlv, SpellsAddrTlvBlock, SpellsExtension, SpellsIndex, SpellsLength, SpellsTlv, SpellsTlvBlock, SpellsTlvOf, SpellsTlvs, SpellsValue, TlvBlockFault, TlvFault, TlvsFault, block_cut, block_long, ext_cut, flags_broken, flags_cut, in_block, length_cut, length_uneven, multi_nothing, not_taken, start_cut, start_high, stop_cut, stop_wrong, two_indexes, value_cut, wide_nothing}
pub use Rattle.mesh_tlv.specs.Items.{FirstFaultAt, ItemsFault, SpellsItems}
unfoldable pub use Rattle.mesh_tlv.specs.Items.{items_at}
pub use Rattle.mesh_tlv.specs.Least.{AreTooLong, Grows, HasLongValue, IsFit, IsLong, flag, has_value, is_wide, least_addr_tlv, least_block, least_length, least_short, least_tlv, least_value, length_within, octet_if}
unfoldable pub use Rattle.mesh_tlv.specs.Least.{least_flags, least_head}
pub use Rattle.mesh_tlv.specs.Reading.{addr_tlv_at, is_sound, length_at, part_count}
unfoldable pub use Rattle.mesh_tlv.specs.Reading.{block_at, extension_at, flags_at, index_octet_at, indexes_at, range_at, tlv_at, tlv_of_at, value_at}
pub use Rattle.std.proofs.Common.{All, Bool, Err, List, MatchResult, None, Ok, Option, Some, [], ap, append_assoc, arith, bit_and, cond, eqb, false, get_or, inl, inr, leb, length, ltb, map, not, refl, slice_range, subst, suc, sym, take, true, zero, ℕ, ◌%◌, ◌&&◌, ◌++◌, ◌+◌, ◌-◌, ◌/◌, ◌<◌, ◌||◌, ◌∙◌, ◌∷◌, ◌≡◌, ◌≤◌, ◌⊎◌}
pub use Rattle.std.proofs.lemmas.Bool.{eq-eqb, eqb-false, eqb-true, false_from_ne_true, le-leb, le-ltb, leb-false, leb-true, lt-leb, lt-ltb, ltb-false, ltb-true, ne_eqb, not-false, not-true}
pub use Rattle.std.proofs.lemmas.Grind.{common_steps}
pub use Rattle.std.proofs.lemmas.List.{append-nil, length-append, map_push}
pub use Rattle.std.proofs.lemmas.List.Elements.{All-cons, All-head, All-nil, All-tail, All-weaker}
pub use Rattle.std.proofs.lemmas.Result.{MatchResult-weaker, err_from_is_err_and, on_ok_weaker}
pub use Rattle.std.specs.Int.Bits.{and_zero_l, and_zero_r}
pub use Rattle.std.specs.List.{flat_map}
