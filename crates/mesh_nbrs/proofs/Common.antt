-- The names that the proofs of this crate cite of its definitions and of the crates below, passed on from one place.
pub use Rattle.indexmap.proofs.CallerLemmas.{Contains-list_any, filter-RetainsPairs}
pub use Rattle.indexmap.specs.IndexSet.{contains}
pub use Rattle.mesh_atoms.proofs.Lookups.{addr_equiv, link_equiv, same_addr, same_two_hop, two_hop_equiv}
pub use Rattle.mesh_atoms.proofs.Options.{by_result, none_is_some, on_err_of, some_of}
pub use Rattle.mesh_atoms.specs.Base.{Base, Expires, HasDistinctKeys, SetsOnly, addr_eq, find, if_live, link_eq, two_hop_eq}
pub use Rattle.mesh_atoms.specs.Words.{IsKept, IsLeastMetric, Meets}
pub use Rattle.mesh_atoms.specs.declared.addr.Addr4.{Addr4}
pub use Rattle.mesh_atoms.specs.declared.codes.metric.Metric.{Metric}
pub use Rattle.mesh_atoms.specs.declared.tuples.LinkKey.{LinkKey}
pub use Rattle.mesh_atoms.specs.declared.tuples.Neighbour.{Neighbour}
pub use Rattle.mesh_atoms.specs.declared.tuples.TwoHop.{TwoHop}
pub use Rattle.mesh_atoms.specs.declared.tuples.TwoHopKey.{TwoHopKey}
pub use Rattle.mesh_expire.proofs.Laws.{changed_at-absent, changed_at-agrees, changed_at-place, distinct-changed_at, distinct_none, find-changed_at, found_none, found_some, length-changed_at, renewed, renewed-none, sets-changed_at, swapped_at, swapped_out, walked}
pub use Rattle.mesh_expire.specs.Table.{changed_at}
pub use Rattle.mesh_nbrs.specs.Neighbours.{HasNoNote, HasNote, HasSummary, IsByNotes, IsNotesSummary, IsSpokenOf, RestoresBy, by_summary}
pub use Rattle.mesh_nbrs.specs.Owners.{HasAt, KeepsAddrs, LeavesNotesOf, Owned, SetsOwner, addrs_at, is_owner, owner_of}
pub use Rattle.mesh_nbrs.specs.Parts.{AreSummariesOf, HasSummaryAt, IsNoteAt, IsSummaryOf, part_of}
pub use Rattle.mesh_nbrs.specs.TwoHops.TwoHops.{DropsLink, KnowsLinks, link_cmp}
pub use Rattle.mesh_nbrs.specs.declared.neighbours.LinkNote.{LinkNote}
pub use Rattle.mesh_nbrs.specs.declared.summary.Summary.{Summary}
pub use Rattle.std.proofs.Common.{Bool, Contains, Decides, IfNone, IsSome, IsTrue, List, None, OnErr, OnOk, Option, Result, Some, [], ap, arith, cond, eqb, false, get_or, inl, inr, is_err, is_some, length, length-take, max, not, option_map, refl, rules, slice_get, slice_set, subst, suc, swap_remove, sym, take, true, zero, ℕ, ◌&&◌, ◌++◌, ◌+◌, ◌-◌, ◌<◌, ◌||◌, ◌↔◌, ◌∙◌, ◌∷◌, ◌≡◌, ◌≢◌, ◌≤◌, ◌⊎◌}
pub use Rattle.std.proofs.lemmas.Bool.{and_parts, cases_lt, cases_order, cond_both, false≢true, or_cases, or_left, or_right}
pub use Rattle.std.proofs.lemmas.Grind.{common_steps}
pub use Rattle.std.proofs.lemmas.List.{take_all, take_more}
pub use Rattle.std.proofs.lemmas.List.Elements.{Contains-append_left, Contains-append_right, Contains-push, Contains-push_cases}
pub use Rattle.std.proofs.lemmas.List.Folds.{list_any_at}
pub use Rattle.std.proofs.lemmas.Map.Entries.{length-keys_of, lookup-filter-values, lookup_from_place, option_filter}
pub use Rattle.std.proofs.lemmas.Result.{IfOk-weaker, on_ok_weaker}
pub use Rattle.std.specs.Cmp.{IsEquivalence}
pub use Rattle.std.specs.List.{filter, list_any}
pub use Rattle.std.specs.Map.{keys_of}
