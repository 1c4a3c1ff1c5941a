-- The names that the proofs of this crate cite of its definitions and of the crates below, passed on from one place.
pub use Rattle.mesh_addr.specs.Grammar.{AreAll, AreAtMost, AreRaw, BeginsBlock, BlockFault, CountedFault, IsWritable, PrefixFault, Shaped, SpellsBlock, SpellsHead, SpellsMids, SpellsPrefixes, SpellsTail, ZerosFault, padded, prefix_count, prefixes}
pub use Rattle.mesh_addr.specs.Least.{Grew, IsFirst, IsLeast, WroteLeast, known_flags, rank}
pub use Rattle.mesh_addr.specs.Reading.{ShapeFields, addr_of, clashes, mid_of, own_at}
unfoldable pub use Rattle.mesh_addr.specs.Reading.{addrs_at, block_at, common_at, count_at, counted_at, flags_at, head_at, number_at, parts_end, prefix_at, tail_at}
pub use Rattle.mesh_addr.specs.Shown.{shape_of}
pub use Rattle.mesh_addr.specs.Spelling.{EndsInZeros, HasHead, HasHeadBelow, IsBestOf, IsLimit, IsPossible, IsWithinLimits, ShareHead, ShareTail, TailFits, cheaper, choice_rank, flags_of, form_flag, have_prefix, head_cost, head_text, last_octets, mids_text, prefixes_text, tail_cost, tail_flag, tail_len, tail_rank, tail_text, weight}
unfoldable pub use Rattle.mesh_addr.specs.Spelling.{cost, form_of, text_of}
pub use Rattle.mesh_addr.specs.declared.choices.Choice.{Choice}
pub use Rattle.mesh_addr.specs.declared.choices.PrefixForm.{PrefixForm}
pub use Rattle.mesh_addr.specs.declared.choices.TailForm.{TailForm}
pub use Rattle.mesh_addr.specs.declared.records.RawAddr.{RawAddr}
pub use Rattle.mesh_atoms.proofs.Reading.{Faulty, Stands, Takes, behind, front_is, meets_bind, meets_if, octet_again, octet_cut, octet_takes, piece_again, piece_cut, piece_takes, range_length, range_split, stands_first, stands_next, takes_both, takes_none}
pub use Rattle.mesh_atoms.specs.Reading.{Gives, IfRefused, has, octet_at, piece_at, refuse, ◌>>=◌}
pub use Rattle.mesh_atoms.specs.declared.refusal.Refusal.{Refusal}
pub use Rattle.std.proofs.Common.{Bool, Err, IfErr, IfOk, List, MatchResult, None, Ok, Option, Result, Some, [], ap, append_assoc, arith, cond, drop, eqb, false, get_or, inl, inr, length, length-append, length-take, ltb, not, refl, replicate, rules, slice_range, subst, suc, sym, take, true, zero, ℕ, ◌&&◌, ◌*◌, ◌++◌, ◌+◌, ◌-◌, ◌<◌, ◌||◌, ◌∙◌, ◌∷◌, ◌≡◌, ◌≤◌, ◌⊎◌}
pub use Rattle.std.proofs.Math.Nat.{mul-add, mul-le-mul_right, suc-mul}
pub use Rattle.std.proofs.lemmas.Bool.{eq-eqb, eqb-false, eqb-true, le-ltb, lt-ltb, ltb-false, ltb-true, ne_eqb, not-false, or_cases, or_parts}
pub use Rattle.std.proofs.lemmas.Grind.{common_steps}
pub use Rattle.std.proofs.lemmas.List.{append-nil, drop-drop, drop-replicate, drop-take, drop_at, length-replicate, length-take-le, nil_from_length, take-append-drop, take-replicate, take-take, take_at}
pub use Rattle.std.proofs.lemmas.Result.{IfOk-weaker, MatchResult-weaker, err_from_is_err_and, on_err_weaker, on_ok_weaker}
pub use Rattle.std.proofs.lemmas.Slice.{between_from_start, drop-put_mid, take-put_mid}
