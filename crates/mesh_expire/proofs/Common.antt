-- The names that the proofs of this crate cite of its definitions and of the crates below, passed on from one place.
pub use Rattle.mesh_atoms.proofs.Options.{none_is_some, on_err_of}
pub use Rattle.mesh_atoms.specs.Base.{Base, Expires, HasDistinctKeys, IsFresh, SetsOnly, find, if_live}
pub use Rattle.mesh_expire.specs.Index.Moments.{AreMomentsOf, IsIndexed, PutsAt, SetsMoment, TakesAt, is_moment, once_if, times_at, times_in, until_of}
pub use Rattle.mesh_expire.specs.Table.{TakesExpired, changed_at}
pub use Rattle.std.proofs.Common.{Bool, IfSome, IsSome, List, None, Option, Some, [], add-one, ap, arith, cond, drop, false, get_or, get_or-set_other, get_or-set_same, get_or-take, if◌then◌else◌, inl, inr, insert, is_some, length, length-take, map, nat_eq, nat_lt, option_map, refl, remove, rules, slice_get, slice_set, subst, suc, swap_remove, sym, take, true, unwrap_or, zero, ℕ, ◌&&◌, ◌++◌, ◌+◌, ◌-◌, ◌<◌, ◌∙◌, ◌∷◌, ◌≡◌, ◌≤◌}
pub use Rattle.std.proofs.lemmas.Bool.{cases_order, eqb-true, le-ltb, lt-ltb}
pub use Rattle.std.proofs.lemmas.Grind.{common_steps}
pub use Rattle.std.proofs.lemmas.Map.{lookup-insert, lookup-none, lookup-remove_entry, none_passes_from_lookup}
pub use Rattle.std.proofs.lemmas.Map.Entries.{lookup-filter-values, lookup_from_place, none_past_head, option_filter, place_from_lookup}
pub use Rattle.std.proofs.lemmas.Map.Keys.{IsDistinct-IsPermutation, IsDistinct-head, IsDistinct-push, IsDistinct-tail}
pub use Rattle.std.proofs.lemmas.Map.Made.{IsDistinct-keys_filter, is_some-lookup}
pub use Rattle.std.proofs.lemmas.Map.Steps.{set_value_same}
pub use Rattle.std.proofs.lemmas.Option.{IfSome_then, get_or_from_slice_get, slice_get-get_or, slice_get-map, slice_get_read, slice_get_within}
pub use Rattle.std.specs.BTreeMap.{BTreeMap, get, is_at}
pub use Rattle.std.specs.Cmp.{IsEquivalence, nat_eq_equiv, ranked}
pub use Rattle.std.specs.List.{AllByRecursion, filter, list_any}
unfoldable pub use Rattle.std.specs.List.{IsDistinct}
pub use Rattle.std.specs.Map.{keys_of, lookup, remove_entry, set_value}
pub use Rattle.std.specs.Ordering.{is_gt, nat_cmp, ordering_then}
