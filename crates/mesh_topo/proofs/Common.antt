-- The names that the proofs of this crate cite of its definitions and of the crates below, passed on from one place.
pub use Rattle.mesh_atoms.proofs.CodesLemmas.CodeLaws.{cost-injective, cost-le}
pub use Rattle.mesh_atoms.proofs.Lists.{any_filter, contains_cases, contains_flat_map, contains_flat_map_cases, contains_head, contains_map, contains_map_cases, contains_none, contains_tail, get_pushed, item_at}
pub use Rattle.mesh_atoms.proofs.Lookups.{same_addr}
pub use Rattle.mesh_atoms.proofs.NetOrder.{at_same, net_exact, net_less, net_total, same_at}
pub use Rattle.mesh_atoms.proofs.Rows.{metrics, options, same_metric}
pub use Rattle.mesh_atoms.specs.Advertised.{AdvertisesBy, AdvertisesOriginatorBy, AreParts, AreRowsBy, AreTcRows, GivesAsSelector, IsRowBy, Of_address, Of_network}
pub use Rattle.mesh_atoms.specs.AfterTc.{AfterTc, Becomes, BecomesSet, Given, GivesAddress, GivesNetwork, GivesRouter, Is_old, Left, Overfull, Takes, TakesTc, TcAnswer, first_overfull, if_not_dropped, is_overfull}
pub use Rattle.mesh_atoms.specs.Base.{Base, Expires, HasDistinctKeys, IsFresh, SetsOnly, addr_eq, address_eq, find, host, if_live, net_eq, network_eq, router_eq}
pub use Rattle.mesh_atoms.specs.Codes.Codes.{metric_value}
pub use Rattle.mesh_atoms.specs.Live.{LiveTopology}
pub use Rattle.mesh_atoms.specs.Nodes.{IsBefore, net_cmp}
pub use Rattle.mesh_atoms.specs.State.{HasSymmetric, IsOriginator, State, TopologyBase}
pub use Rattle.mesh_atoms.specs.declared.addr.Addr4.{Addr4}
pub use Rattle.mesh_atoms.specs.declared.addr.NetAddr.{NetAddr}
pub use Rattle.mesh_atoms.specs.declared.codes.metric.Metric.{Metric}
pub use Rattle.mesh_atoms.specs.declared.tc.Tc.{Tc}
pub use Rattle.mesh_atoms.specs.declared.tc.TcRow.{TcRow}
pub use Rattle.mesh_expire.proofs.Laws.{distinct_none, find_same, renewed, renewed-none}
pub use Rattle.mesh_expire.specs.Keyed.{AreKeys}
pub use Rattle.mesh_topo.specs.Advertised.Offers.{KeepsWithOffers, lesser, of_address, of_network, of_selector, offered, put_offer, row_of}
pub use Rattle.mesh_topo.specs.Advertised.Spans.{AreSpans, part_of}
pub use Rattle.mesh_topo.specs.Sets.{AreFew, AreFresh, sets_of}
pub use Rattle.mesh_topo.specs.TcSets.Same.{SaysSame}
pub use Rattle.mesh_topo.specs.TcSets.Sets.{GivenBefore, GivenBy, Put, PutsGiven, PutsRows, Stood, has_other_number, is_outdated}
pub use Rattle.mesh_topo.specs.TcSets.Tuples.{TupleKind, address_kind, address_says, given, network_kind, network_says, router_kind, router_says}
pub use Rattle.mesh_topo.specs.declared.advertised.rows.Offer.{Offer}
pub use Rattle.mesh_topo.specs.declared.advertised.rows.Selector.{Selector}
pub use Rattle.mesh_topo.specs.declared.advertised.spans.PartSpan.{PartSpan}
pub use Rattle.std.proofs.Common.{IfSome, AllPairs, Bool, Contains, Decides, Err, IfOk, IsTrue, List, None, Ok, OnOk, Option, Result, Some, [], ap, arith, cond, count_by, drop, eq-eqb, eqb, false, flat_map, inl, inr, is_none, is_some, length, length-append, length-drop, length-take, map, min, nat_eq, nat_lt, not, option_and_then, option_map, refl, slice_get, slice_index_or, slice_range, subst, suc, sym, take, true, zero, ℕ, ◌&&◌, ◌*◌, ◌++◌, ◌+◌, ◌-◌, ◌<◌, ◌||◌, ◌↔◌, ◌∙◌, ◌∷◌, ◌≡◌, ◌≤◌, ◌⊎◌}
pub use Rattle.std.proofs.lemmas.Bool.{and_parts, cases_Bool, cases_lt, lt-ltb, ltb-false, not-true, or_parts}
pub use Rattle.std.proofs.lemmas.Grind.{common_steps, flat_map-append}
pub use Rattle.std.proofs.lemmas.List.{append-nil, at_drop_more, length-map, nil_from_length, take-append-drop}
pub use Rattle.std.proofs.lemmas.List.Folds.{flat_map-map, list_any_at}
pub use Rattle.std.proofs.lemmas.List.Sums.{count_by_more_no, count_by_more_yes, sum_by-cons}
pub use Rattle.std.proofs.lemmas.Map.Keys.{Less-from_sorted, sorted_head, sorted_tail}
pub use Rattle.std.proofs.lemmas.Option.{get_or_from_slice_get, slice_get-get_or, slice_get-map, slice_get_within}
pub use Rattle.std.specs.BTreeMap.{BTreeMap, IsOrdered, get, is_at}
pub use Rattle.std.specs.BTreeSet.{BTreeSet, contains}
pub use Rattle.std.specs.Cmp.{IsEquivalence}
pub use Rattle.std.specs.List.{AllByRecursion, filter, list_any}
pub use Rattle.std.specs.List.Sorted.{IsStrictlySortedBy}
pub use Rattle.std.specs.Ordering.{is_eq, is_gt, is_le}
pub use Rattle.std.specs.declared.cmp.Ordering.{Ordering}
