-- The names that the proofs of this crate cite of its definitions and of the crates below, passed on from one place.
pub use Rattle.mesh_atoms.proofs.Lists.{contains_at, contains_cases, contains_filter, contains_flat_map, contains_flat_map_cases, contains_head, contains_map, contains_map_cases, contains_tail, none_within, place_of}
pub use Rattle.mesh_atoms.proofs.Lookups.{addr_equiv, has_found, link_equiv, looks_up_links, looks_up_neighbours, same_addr, same_link}
pub use Rattle.mesh_atoms.proofs.Nets.{same_net}
pub use Rattle.mesh_atoms.proofs.Options.{none_not, same_some, some_of}
pub use Rattle.mesh_atoms.proofs.Values.{on_interface, same_address}
pub use Rattle.mesh_atoms.specs.Base.{Base, Has, HasDistinctKeys, addr_eq, base_of, find, host, if_live, link_eq}
pub use Rattle.mesh_atoms.specs.Hello.{Flooding, HasLinkTo, IsHelloNow, IsHelloRow, IsRoundedUp, Link_heard, Link_in, Link_lost, Link_out, Link_symmetric, Near_in, Near_out, Other_if, Other_lost, Other_symmetric, Part, Routing, Says, SaysLink, This_if, link_part, local_part, other_part, status_said}
pub use Rattle.mesh_atoms.specs.HelloTold.{HasRowOf, IsHandedIn, IsListed, IsMyStatus, IsSending, TellsLocal, TellsMe}
pub use Rattle.mesh_atoms.specs.Nodes.{IsBefore}
pub use Rattle.mesh_atoms.specs.Sound.{SoundNeighbourhood}
pub use Rattle.mesh_atoms.specs.State.{HasAddress, HasAddressOn, HasLink, HasSymmetricWith, IsOriginator, Neighbourhood, State, state_of}
pub use Rattle.mesh_atoms.specs.TakesHello.{IsFault, IsFaultAt, IsHeld, IsNameless, IsOwn, Local, Originator, Sender}
pub use Rattle.mesh_atoms.specs.Words.{AreMoreThan, IsAscending, IsLeastMetric, IsValue}
pub use Rattle.mesh_atoms.specs.declared.addr.Addr4.{Addr4}
pub use Rattle.mesh_atoms.specs.declared.addr.NetAddr.{NetAddr}
pub use Rattle.mesh_atoms.specs.declared.codes.metric.Metric.{Metric}
pub use Rattle.mesh_atoms.specs.declared.hello.Hello.{Hello}
pub use Rattle.mesh_atoms.specs.declared.hello.HelloRow.{HelloRow}
pub use Rattle.mesh_atoms.specs.declared.hello.LinkStatus.{LinkStatus}
pub use Rattle.mesh_atoms.specs.declared.hello.LinkStatus.TheVariants.{Heard, Symmetric}
pub use Rattle.mesh_atoms.specs.declared.hello.LocalIf.{LocalIf}
pub use Rattle.mesh_atoms.specs.declared.hello.LocalIf.TheVariants.{Other, This}
pub use Rattle.mesh_atoms.specs.declared.settings.Interface.{Interface}
pub use Rattle.mesh_atoms.specs.declared.settings.RouterSettings.{RouterSettings}
pub use Rattle.mesh_atoms.specs.declared.tuples.Link.{Link}
pub use Rattle.mesh_atoms.specs.declared.tuples.LinkKey.{LinkKey}
pub use Rattle.mesh_atoms.specs.declared.tuples.LinkState.{LinkState}
pub use Rattle.mesh_atoms.specs.declared.tuples.LinkState.TheVariants.{Pending}
pub use Rattle.mesh_atoms.specs.declared.tuples.Lost.{Lost}
pub use Rattle.mesh_atoms.specs.declared.tuples.Neighbour.{Neighbour}
pub use Rattle.mesh_atoms.specs.declared.tuples.Relays.{Relays}
pub use Rattle.mesh_expire.specs.Table.{entry_of, value_of}
pub use Rattle.mesh_hello.specs.Gathers.{Gathers}
pub use Rattle.mesh_hello.specs.Saying.Said.{AreDisjoint, IsFloodingRelayOver, IsHelloRowOf, IsLinkWith, IsLocalOn, IsNeighbourWith, IsRelayOf, IsSeen, link_in_said, link_out_said, link_status_said, linked_addresses, near_in_said, near_out_said, other_said, said_addresses, symmetric_addresses}
pub use Rattle.mesh_hello.specs.Told.Mine.{Bears, IsMyRow, TellsMine}
pub use Rattle.mesh_hello.specs.Told.Receive.{IsBareSender, IsLocalRow, IsLocalWith, NamesAsSender}
pub use Rattle.mesh_hello.specs.Told.Sender.{IsLocalAddress, IsOrSender}
pub use Rattle.mesh_nbrs.proofs.Summaries.{least_joined, least_same}
pub use Rattle.std.proofs.Common.{AllPairs, Any, Bool, Contains, IfNone, IfSome, IsSome, IsTrue, Less, List, None, Option, Ordering, Some, [], add-one, ap, arith, below_more, cond, drop, false, get_or, inl, inr, is_some, length, length-append, map, nat_lt, not, refl, rules, slice_get, subst, suc, sym, take, true, unwrap_or, zero, ℕ, ◌*◌, ◌++◌, ◌+◌, ◌<◌, ◌||◌, ◌↔◌, ◌∙◌, ◌∷◌, ◌≡◌, ◌≢◌, ◌≤◌, ◌⊎◌}
pub use Rattle.std.proofs.lemmas.Bool.{cases_eq, cases_lt, eq-eqb, false≢true, iff_false, lt-ltb, ltb-true, ne_eqb, or_cases}
pub use Rattle.std.proofs.lemmas.Grind.{common_steps}
pub use Rattle.std.proofs.lemmas.List.{append_assoc, get_or-map, length-map, take_all, take_more}
pub use Rattle.std.proofs.lemmas.List.Elements.{All-contains, All-contains_itself, All-filter, Contains-append_cases, Contains-append_left, Contains-append_right, Contains-get_or, Contains-push, Contains-push_cases, filter_passes}
pub use Rattle.std.proofs.lemmas.List.Kept.{AllPairs-filter, Contains-dedup, Contains-from_dedup, IsStrictlySortedBy-dedup}
pub use Rattle.std.proofs.lemmas.Map.Entries.{lookup_from_place, place_from_lookup}
pub use Rattle.std.proofs.lemmas.Map.Views.{list_any-from_Contains, lookup-from_Contains}
pub use Rattle.std.proofs.lemmas.Option.{get_or_from_slice_get, slice_get_cases, slice_get_read, slice_get_within}
pub use Rattle.std.specs.Borrow.{Bor}
pub use Rattle.std.specs.Cmp.{IsEquivalence, IsTotalOrder}
pub use Rattle.std.specs.List.{IsDistinct, dedup, filter, flat_map, list_any}
pub use Rattle.std.specs.Map.{keys_of, lookup}
