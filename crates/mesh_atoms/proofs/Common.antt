-- The names that the proofs of this crate cite of its definitions and of the crates below, passed on from one place.
pub use Rattle.mesh_atoms.specs.Base.{Base, Has, HasDistinctKeys, addr_eq, address_eq, base_of, find, host, link_eq, net_eq, network_eq, router_eq, two_hop_eq}
pub use Rattle.mesh_atoms.specs.Codes.Codes.{IsSentCode, cost_of, metric_value, time_at_distance, time_value}
pub use Rattle.mesh_atoms.specs.Nodes.{IsAtMost, IsBefore, net_cmp}
pub use Rattle.mesh_atoms.specs.Reading.{Fails, Gives, IfRefused, octet_at, piece_at, refuse, short_at, ◌>>=◌}
pub use Rattle.mesh_atoms.specs.Settings.{are_distinct, is_name_octet}
pub use Rattle.mesh_atoms.specs.State.{HasAddressOn, IsOriginator, link_state}
pub use Rattle.mesh_atoms.specs.Validity.{Everywhere, Far, IsLeastCode, IsTimeValue, IsValidity, Near, Up_to}
pub use Rattle.mesh_atoms.specs.declared.addr.Addr4.{Addr4}
pub use Rattle.mesh_atoms.specs.declared.addr.NetAddr.{NetAddr}
pub use Rattle.mesh_atoms.specs.declared.codes.metric.Metric.{Metric}
pub use Rattle.mesh_atoms.specs.declared.refusal.Refusal.{Refusal}
pub use Rattle.mesh_atoms.specs.declared.settings.Interface.{Interface}
pub use Rattle.mesh_atoms.specs.declared.settings.NearHold.{NearHold}
pub use Rattle.std.proofs.Common.{All, Bool, Contains, Decides, Err, IfErr, IfOk, IsTrue, List, MatchResult, None, Ok, OnErr, OnOk, Option, Result, Some, [], ap, append_assoc, arith, cond, decimal, drop, drop-cons, eqb, false, filter, get_or, inl, inr, length, length-append, ltb, map, min, nat_le, nat_lt, not, refl, slice_get, slice_index_or, slice_range, slice_set, subst, suc, sym, take, true, zero, ℕ, ◌%◌, ◌&&◌, ◌*◌, ◌++◌, ◌+◌, ◌-◌, ◌/◌, ◌<◌, ◌^◌, ◌||◌, ◌↔◌, ◌∙◌, ◌∷◌, ◌≡◌, ◌≢◌, ◌≤◌, ◌⊎◌}
pub use Rattle.std.proofs.Math.ListN.{length-set}
pub use Rattle.std.proofs.Math.Nat.{le-mul_of_pos_right, mul-le-mul_left, mul-le-mul_right, mul-lt-mul_of_pos_right, mul-mod_left, pow-succ'}
pub use Rattle.std.proofs.lemmas.Bool.{and_parts, cases_eq, cases_lt, eq-eqb, eqb-true, false≢true, le-leb, le-ltb, leb-true, lt-ltb, ltb-false, ltb-true, ne_eqb}
pub use Rattle.std.proofs.lemmas.Cmp.{and_equiv, nat_cmp_total, nat_eq_equiv, on_equiv, on_total, ranked, then_total}
pub use Rattle.std.proofs.lemmas.Grind.{common_steps, div_ceil_times}
pub use Rattle.std.proofs.lemmas.List.{drop-set, drop_all, drop_at, drop_more, get_or-map, get_or_past, length-drop, length-map, length-take, take_all, take_at}
pub use Rattle.std.proofs.lemmas.List.Elements.{All-contains, All-contains_itself, All-filter, Contains-append_cases, Contains-append_left, Contains-append_right, Contains-get_or, filter_passes}
pub use Rattle.std.proofs.lemmas.List.Folds.{Any-from_list_any, drop_split, list_any-append}
pub use Rattle.std.proofs.lemmas.Map.Views.{Contains-from_lookup, list_any-from_Contains, lookup-from_Contains}
pub use Rattle.std.proofs.lemmas.Nat.{one_shl, pow_pos}
pub use Rattle.std.proofs.lemmas.Option.{get_or_from_slice_get, slice_get-get_or, slice_get_cases, slice_get_read, slice_get_within}
pub use Rattle.std.specs.Cmp.{IsEquivalence, IsTotalOrder}
pub use Rattle.std.specs.Coded.{Coded-set, coded_ℕ, le_prop}
pub use Rattle.std.specs.List.{AllByRecursion, AllPairs, cons_option, flat_map, fold, list_all, list_any}
pub use Rattle.std.specs.Option.{is_some, option_eq}
