-- The names that the proofs of this crate cite of its definitions and of the crates below, passed on from one place.
pub use Rattle.mesh_atoms.specs.declared.addr.Endpoint.{Endpoint}
pub use Rattle.mesh_io.specs.Airs.Report.{Attached_to, Handed}
pub use Rattle.mesh_io.specs.Faults.{Rose}
pub use Rattle.mesh_io.specs.MemAir.{AllLie, IsRoomy, Lies, LogState, lying, report_of, told_more}
pub use Rattle.std.proofs.Common.{Bool, Err, IsErrAnd, List, None, Option, Result, Some, [], ap, append_assoc, arith, cond, drop, false, length, length-append, length-drop, ltb, map, min, nat_lt, refl, subst, suc, sym, take, true, ℕ, ◌++◌, ◌+◌, ◌-◌, ◌<◌, ◌^◌, ◌∙◌, ◌∷◌, ◌≡◌, ◌≤◌}
pub use Rattle.std.proofs.Math.Seq.{drop-append_seam, take-append-add}
pub use Rattle.std.proofs.lemmas.Bool.{false≢true, lt-ltb, ltb-false, ltb-true}
pub use Rattle.std.proofs.lemmas.Grind.{common_steps}
pub use Rattle.std.proofs.lemmas.List.{append-nil, length-take, take-append-drop, take-append-le, take_all, take_at}
pub use Rattle.std.proofs.lemmas.List.Folds.{concat-append, drop_split}
pub use Rattle.std.specs.Io.KnownBytes.{Appends, Consumes, Keeps}
