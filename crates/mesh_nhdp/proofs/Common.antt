-- The names that the proofs of this crate cite of its definitions and of the crates below, passed on from one place.
pub use Rattle.mesh_atoms.proofs.Deciding.{Decides-addr, Decides-and, Decides-some}
pub use Rattle.mesh_atoms.proofs.Lists.{contains_at, contains_cases, contains_filter_cases, contains_head, contains_map, contains_map_cases, contains_none, contains_tail, none_within}
pub use Rattle.mesh_atoms.proofs.Lookups.{addr_equiv, link_equiv, looks_up_neighbours, net_equiv, same_addr, same_link, same_two_hop, two_hop_equiv}
pub use Rattle.mesh_atoms.proofs.Options.{cond_none_some, cond_true, if_ok_weaker, none_is_some, none_not, same_some}
pub use Rattle.mesh_atoms.proofs.Values.{contains_or_not, same_address}
pub use Rattle.mesh_atoms.specs.AfterHello.{AfterHello, BecomesOther, By_none, By_row, GoesOn, IsApart, IsTheirs, Joins, LinkKeptOrMade, Made, Matches, New_link, Remains, Same_link, Stood, StoodOn, TellsTwoHop, announced, by_status, made, renewed, row_makes}
pub use Rattle.mesh_atoms.specs.Base.{Base, Expires, HasDistinctKeys, IsFresh, Same, SetsOnly, addr_eq, base_of, find, host, if_live, link_eq, net_eq, two_hop_eq}
pub use Rattle.mesh_atoms.specs.HelloTold.{IsListed, LooksAt, Tells, TellsLocal, Told, tells_symmetric, two_hop_of}
pub use Rattle.mesh_atoms.specs.Live.{Back, Gone, HasLinkOf, HasSymmetricOf, HasTables, IsByLinks, IsSymmetricAddress, KeepsNeighbour, LiveNeighbourhood, Restores, SettlesLost, Stays, is_symmetric_at, is_symmetric_entry, trim, trimmed}
pub use Rattle.mesh_atoms.specs.Quality.{admit_on, admitted, quality_at, rule_in, rule_of}
pub use Rattle.mesh_atoms.specs.Sound.{IsSoundLink, IsSoundNeighbour, SoundNeighbourhood}
pub use Rattle.mesh_atoms.specs.State.{HasAddress, Neighbourhood, State, is_symmetric, link_at, lost_at, neighbour_at, two_hop_at}
pub use Rattle.mesh_atoms.specs.TakesHello.{AreTwoHopRows, Breaks, Broken_at, FitsTwoHops, Full_of_addresses, Full_of_two_hops, HelloAnswer, IsFault, IsFullOfAddresses, IsFullOfTwoHops, IsHeld, Local, Originator, Overfull, Overfull_two_hops, Sender, Taken, Takes, TakesHello}
pub use Rattle.mesh_atoms.specs.Words.{AreMoreThan, IsAscending, IsBeyond, IsKept, Meets}
pub use Rattle.mesh_atoms.specs.declared.addr.Addr4.{Addr4}
pub use Rattle.mesh_atoms.specs.declared.addr.NetAddr.{NetAddr}
pub use Rattle.mesh_atoms.specs.declared.admit.Admit.{Admit}
pub use Rattle.mesh_atoms.specs.declared.codes.metric.Metric.{Metric}
pub use Rattle.mesh_atoms.specs.declared.hello.Hello.{Hello}
pub use Rattle.mesh_atoms.specs.declared.hello.HelloRow.{HelloRow}
pub use Rattle.mesh_atoms.specs.declared.hello.LinkStatus.{LinkStatus}
pub use Rattle.mesh_atoms.specs.declared.hello.LocalIf.TheVariants.{Other, This}
pub use Rattle.mesh_atoms.specs.declared.hello.Shown.{Shown}
pub use Rattle.mesh_atoms.specs.declared.settings.RouterSettings.{RouterSettings}
pub use Rattle.mesh_atoms.specs.declared.tuples.Link.{Link}
pub use Rattle.mesh_atoms.specs.declared.tuples.LinkKey.{LinkKey}
pub use Rattle.mesh_atoms.specs.declared.tuples.Lost.{Lost}
pub use Rattle.mesh_atoms.specs.declared.tuples.Neighbour.{Neighbour}
pub use Rattle.mesh_atoms.specs.declared.tuples.TwoHop.{TwoHop}
pub use Rattle.mesh_atoms.specs.declared.tuples.TwoHopKey.{TwoHopKey}
pub use Rattle.mesh_hello.proofs.Collect.{SomeBelow, adds_more, adds_nothing, adds_one, adds_so, adds_where, below_cases, below_contains, below_found, below_here, below_later, found_below, gathers_more, iff_on, item_at}
pub use Rattle.mesh_hello.proofs.Fits.{are_more, distinct_fits}
pub use Rattle.mesh_hello.proofs.Lookups.{live_from, same_key}
pub use Rattle.mesh_hello.proofs.SayingLemmas.RowCounts.{counted, few_rows, neighbour_held, rows_ascend}
pub use Rattle.mesh_hello.specs.Gathers.{Gathers}
pub use Rattle.mesh_hello.specs.Told.Telling.{AreOwnAddresses, told_of}
pub use Rattle.mesh_links.proofs.Tied.{kept_from}
pub use Rattle.mesh_links.specs.Links.{AdmitsLinks, AllStay, EndsOutside, ExpiresLinks, HearsOn, IsLinkUnchanged, Unlinked}
pub use Rattle.mesh_nbrs.proofs.Summaries.{least_same}
pub use Rattle.mesh_nbrs.specs.Losts.{SettlesAll}
pub use Rattle.mesh_nbrs.specs.Neighbours.{HasNote, HasSymmetricNote, IsByNotes, IsSpokenOf, Replaces, RestoresBy}
pub use Rattle.mesh_nbrs.specs.Same.{SameNear, SameTuples, way_at}
pub use Rattle.mesh_nbrs.specs.TwoHops.TwoHops.{DropsLink}
pub use Rattle.mesh_nbrs.specs.declared.neighbours.LinkNote.{LinkNote}
pub use Rattle.mesh_nhdp.specs.Calls.{DropsEnded, IsNoteAmong, IsNoteIn, TellsKeys, TellsLinks, TellsLinksOf, TellsTwoHops, is_symmetric_in, key_at, note_of}
pub use Rattle.mesh_nhdp.specs.Changes.{ChangesOn}
pub use Rattle.mesh_nhdp.specs.Follows.{FollowsLinks, FollowsLinksOf, RenewsNeighbour}
pub use Rattle.mesh_nhdp.specs.Interfaces.{ChangesEach, ExpiresOn, HearsAt}
pub use Rattle.mesh_nhdp.specs.Judged.{IsAnswer, IsFilledBy, Judges}
pub use Rattle.mesh_nhdp.specs.NhdpState.{NhdpState, empty_near}
pub use Rattle.mesh_nhdp.specs.Repeats.{Repeats, RepeatsLink, RepeatsNeighbour, RepeatsRow, RepeatsRows, RepeatsStatus}
pub use Rattle.mesh_nhdp.specs.Rows.{Looked, LooksOn, Passed, RowTells, TellsSymmetric}
pub use Rattle.mesh_nhdp.specs.Wanted.{IsSpokenAddress, IsSymmetricSpokenAddress, IsWanted, IsWantedAddress, IsWantedAt, symmetric_at}
pub use Rattle.mesh_nhdp.specs.declared.near_addresses.WantedNeighbours.TheVariants.{Each, Symmetric}
pub use Rattle.std.proofs.Common.{AllPairs, Bool, Contains, Decides, IsSome, IsTrue, List, None, Option, Some, [], ap, arith, below_more, cond, drop, eqb, false, get_or, get_or-set_other, get_or-set_same, inl, inr, is_some, length, length-append, map, min, nat_eq, nat_le, nat_lt, not, option_map, refl, replicate, rules, slice_get, slice_index_or, slice_set, subst, suc, sym, take, true, zero, ℕ, ◌&&◌, ◌++◌, ◌+◌, ◌-◌, ◌<◌, ◌||◌, ◌↔◌, ◌∙◌, ◌∷◌, ◌≡◌, ◌≢◌, ◌≤◌, ◌⊎◌}
pub use Rattle.std.proofs.lemmas.Bool.{cases_Bool, cases_eq, cases_lt, eq-eqb, false≢true, iff_false, lt-ltb, ltb-true, not-false}
pub use Rattle.std.proofs.lemmas.Grind.{common_steps}
pub use Rattle.std.proofs.lemmas.List.{get_or-map, get_or-replicate, get_or_default, get_or_past, length-map, length-replicate, length-set, nil_from_length, take_all}
pub use Rattle.std.proofs.lemmas.List.Elements.{Contains-append_cases, Contains-append_left, Contains-append_right, Contains-push, Contains-push_cases}
pub use Rattle.std.proofs.lemmas.Map.Entries.{length-keys_of, lookup_from_place, place_from_lookup}
pub use Rattle.std.proofs.lemmas.Map.Keys.{IsDistinct-cons, IsDistinct-from_apart}
pub use Rattle.std.proofs.lemmas.Map.Views.{list_any-from_Contains, lookup-from_Contains}
pub use Rattle.std.proofs.lemmas.Option.{get_or_from_slice_get, none-some, slice_get-get_or, slice_get-map, slice_get_cases, slice_get_within}
pub use Rattle.std.proofs.lemmas.Result.{IfOk-weaker, on_ok_weaker}
pub use Rattle.std.proofs.lemmas.Slice.Eq.{slice_eq-Decides}
pub use Rattle.std.specs.Cmp.{IsEquivalence}
pub use Rattle.std.specs.List.{AllByRecursion, filter, list_any}
unfoldable pub use Rattle.std.specs.List.{IsDistinct}
pub use Rattle.std.specs.Map.{keys_of, lookup}
