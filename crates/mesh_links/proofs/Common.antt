-- The names that the proofs of this crate cite of its definitions and of the crates below, passed on from one place.
pub use Rattle.mesh_atoms.proofs.Lookups.{addr_equiv, link_equiv, same_addr}
pub use Rattle.mesh_atoms.proofs.Options.{by_result, none_not, same_some, true_false}
pub use Rattle.mesh_atoms.specs.AfterHello.{IsApart, LinkKeptOrMade, Made, Stood, by_status, made, renewed}
pub use Rattle.mesh_atoms.specs.Base.{Base, Expires, HasDistinctKeys, SetsOnly, addr_eq, find, if_live, link_eq}
pub use Rattle.mesh_atoms.specs.Live.{trim, trimmed}
pub use Rattle.mesh_atoms.specs.Quality.{admitted, by_quality, quality_at, quality_of}
pub use Rattle.mesh_atoms.specs.Words.{IsKept, Meets}
pub use Rattle.mesh_atoms.specs.declared.addr.Addr4.{Addr4}
pub use Rattle.mesh_atoms.specs.declared.admit.Admit.{Admit}
pub use Rattle.mesh_atoms.specs.declared.hello.Shown.{Shown}
pub use Rattle.mesh_atoms.specs.declared.tuples.Link.{Link}
pub use Rattle.mesh_atoms.specs.declared.tuples.LinkKey.{LinkKey}
pub use Rattle.mesh_expire.proofs.Laws.{changed_at-absent, changed_at-agrees, distinct-changed_at, distinct_none, find-changed_at, find_same, found_none, found_some, sets-changed_at, walk_at, walk_changed}
pub use Rattle.mesh_expire.specs.Table.{changed_at}
pub use Rattle.mesh_links.specs.Ending.{Spares}
pub use Rattle.mesh_links.specs.Links.{AdmitsLinks, ExpiresLinks, HasRoom, HearsOn, IsLinkUnchanged, Linked, Unlinked}
pub use Rattle.mesh_links.specs.Owners.{purged, HasLinkOwners, IsFewer, IsKeptOrGone, OwnsAll, OwnsMore, SoundLinks, owner_of}
pub use Rattle.mesh_links.specs.Rulings.{is_steady, ruled}
pub use Rattle.std.proofs.Common.{Bool, Contains, Decides, IsSome, IsTrue, List, None, Option, Some, [], ap, arith, cond, drop, false, get_or, inl, inr, is_some, length, map, min, nat_eq, nat_lt, not, option_map, refl, rules, slice_get, subst, sym, take, true, ℕ, ◌++◌, ◌+◌, ◌<◌, ◌^◌, ◌↔◌, ◌∙◌, ◌∷◌, ◌≡◌, ◌≢◌, ◌≤◌, ◌⊎◌}
pub use Rattle.std.proofs.lemmas.Bool.{and_parts, false≢true}
pub use Rattle.std.proofs.lemmas.Grind.{common_steps}
pub use Rattle.std.proofs.lemmas.List.{append-nil, get_or_default, length-drop, nil_from_length, take_all}
pub use Rattle.std.proofs.lemmas.List.Elements.{All-contains, All-from_all_within, AllWithin-more, AllWithin-upto, Contains-get_or}
pub use Rattle.std.proofs.lemmas.Map.Entries.{lookup-filter-values, lookup_from_place, place_from_lookup}
pub use Rattle.std.proofs.lemmas.Map.Made.{lookup-map_values}
pub use Rattle.std.proofs.lemmas.Option.{slice_get_cases, slice_get_within}
pub use Rattle.std.proofs.lemmas.Result.{on_ok_weaker}
pub use Rattle.std.specs.List.{AllWithin, HoldsAt, filter, fold, list_all, list_any}
