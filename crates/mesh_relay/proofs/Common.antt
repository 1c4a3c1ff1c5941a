-- The names that the proofs of this crate cite of its definitions and of the crates below, passed on from one place.
pub use Rattle.mesh_atoms.proofs.Deciding.{Decides-addr, Decides-and, Decides-each, Decides-eqb, Decides-if, Decides-if_both, Decides-leb, Decides-ltb, Decides-not, Decides-or, Decides-some}
pub use Rattle.mesh_atoms.proofs.Lists.{all_pairs_cons, contains_cases, contains_cond, contains_filter, contains_filter_cases, contains_head, contains_none, contains_tail, option_cases}
pub use Rattle.mesh_atoms.proofs.Options.{none_is_some, some_equal}
pub use Rattle.mesh_atoms.specs.Base.{addr_eq}
pub use Rattle.mesh_atoms.specs.Relays.{Covers, HasDistinctIds, HasSameDistance, IsAsCheap, IsDistance, IsMissed, IsOtherRelay, IsRelay, IsWilling, Needed, Offers}
pub use Rattle.mesh_atoms.specs.Words.{IsAscending}
pub use Rattle.mesh_atoms.specs.declared.addr.Addr4.{Addr4}
pub use Rattle.mesh_atoms.specs.declared.graphs.Direct.{Direct}
pub use Rattle.mesh_atoms.specs.declared.graphs.Far.{Far}
pub use Rattle.mesh_atoms.specs.declared.graphs.Near.{Near}
pub use Rattle.mesh_atoms.specs.declared.graphs.NeighbourGraph.{NeighbourGraph}
pub use Rattle.mesh_relay.specs.Soles.{AreFit, is_fit, is_within, tells}
pub use Rattle.mesh_relay.specs.Taken.{IsBest, IsDearer, IsFree, IsPruned, IsTaken, free_count, ids_of, reaches}
pub use Rattle.mesh_relay.specs.Tests.{are_all_distinct, are_costs_kept, are_distinct, are_willing, can_be_left_out, contains, covers, has_always, has_same_distance, has_way_within, irredundant, is_as_cheap, is_direct_within, is_distinct_from_all, is_in_set, is_led_to_within, is_matched, is_missed, is_offered_within, is_willing_id, without}
pub use Rattle.mesh_relay.specs.Ways.{AreWays, AreWilling, HasWay, IsAt, IsCheapest, IsDirect, IsSought, RisesFrom, are_all_reached, are_all_reached_on, is_first_within, is_no_better, is_offer, near_from, way_at, way_from}
pub use Rattle.mesh_relay.specs.declared.sets.Among.TheVariants.{Others, Relays, Willing}
pub use Rattle.mesh_relay.specs.declared.ways.Way.{Way}
pub use Rattle.std.proofs.Common.{All, AllPairs, Bool, Contains, Decides, IsPermutation, IsTrue, List, MatchBool, None, Option, Ordering, Some, [], ap, arith, cond, drop, false, filter, filter_map, get_or, inl, inr, length, nat_eq, nat_le, nat_lt, not, refl, replicate, rules, set, subst, suc, sym, true, zero, ℕ, ◌&&◌, ◌++◌, ◌+◌, ◌<◌, ◌||◌, ◌↔◌, ◌∙◌, ◌∷◌, ◌≡◌, ◌≢◌, ◌≤◌, ◌⊎◌}
pub use Rattle.std.proofs.lemmas.Bool.{and_cases, and_from, and_parts, cases_Bool, cases_lt, eq-eqb, eqb-true, false≢true, lt-ltb, ltb-true, or_cases, or_left, or_parts, or_right, true≢false}
pub use Rattle.std.proofs.lemmas.Fn.{dedup_same}
pub use Rattle.std.proofs.lemmas.Grind.{common_steps}
pub use Rattle.std.proofs.lemmas.List.{append_assoc, at_drop_more, drop_more, get_or-drop, get_or-replicate, get_or-set_other, get_or-set_same, get_or_default, get_or_past, length-drop, length-replicate, length-set, set-get_or, set-set, take_rest}
pub use Rattle.std.proofs.lemmas.List.Elements.{Contains-get_or}
pub use Rattle.std.proofs.lemmas.List.Sorted.{Contains-permutation, IsNonDecreasingBy-from_sort_by_key, IsPartitionPoint-from_clause, IsPartitionedBy-ltb, IsPermutation-sym, list_any-IsPermutation}
pub use Rattle.std.proofs.lemmas.Result.{IfOk-weaker}
pub use Rattle.std.specs.List.{cons_option, dedup, dedup_from, list_all, list_any}
pub use Rattle.std.specs.List.Sorted.{IsNonDecreasingBy, IsPartitionPoint, IsSorted}
