-- The names that the proofs of this crate cite of its definitions and of the crates below, passed on from one place.
pub use Rattle.mesh_atoms.specs.Base.{Base, Expires, HasDistinctKeys, IsFresh, addr_eq, base_of, find, flood_eq}
pub use Rattle.mesh_atoms.specs.Live.{LiveNoted}
pub use Rattle.mesh_atoms.specs.State.{NotedMessages}
pub use Rattle.mesh_atoms.specs.declared.addr.Addr4.{Addr4}
pub use Rattle.mesh_atoms.specs.declared.tuples.FloodKey.{FloodKey}
pub use Rattle.mesh_atoms.specs.declared.tuples.Noted.{Noted}
pub use Rattle.mesh_expire.proofs.Laws.{distinct_none}
pub use Rattle.mesh_flood.specs.Noting.{AfterNote, AreWithin, HeldSets, Notes}
pub use Rattle.mesh_flood.specs.Verdict.{forward_by, forward_of, if_linked, if_noted, is_forwarded, is_full, is_received, key_of, process_of}
pub use Rattle.mesh_flood.specs.declared.verdict.Forward.{Forward}
pub use Rattle.mesh_flood.specs.declared.verdict.Heading.{Heading}
pub use Rattle.std.proofs.Common.{Bool, IsSome, IsTrue, List, None, OnOk, Option, Result, [], ap, arith, cond, false, get_or, length, nat_eq, not, refl, slice_set, subst, sym, true, ℕ, ◌+◌, ◌<◌, ◌↔◌, ◌∙◌, ◌≡◌, ◌≤◌, ◌⊎◌}
pub use Rattle.std.proofs.lemmas.Bool.{cases_Bool, eqb-false, eqb-true, false≢true}
pub use Rattle.std.proofs.lemmas.Grind.{common_steps}
pub use Rattle.std.proofs.lemmas.List.{get_or-set_other, get_or_default, get_or_past, length-set}
