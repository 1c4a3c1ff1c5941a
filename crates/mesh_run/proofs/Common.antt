-- The names that the proofs of this crate cite of its definitions and of the crates below, passed on from one place.
pub use Rattle.mesh_atoms.proofs.Options.{if_ok_weaker, on_err_of}
pub use Rattle.mesh_atoms.specs.Sound.{Sound}
pub use Rattle.mesh_atoms.specs.State.{State}
pub use Rattle.mesh_atoms.specs.declared.settings.RunSetup.{RunSetup}
pub use Rattle.mesh_core.proofs.Kept.{kept_through, kept_whole, step_from}
pub use Rattle.mesh_core.specs.Deferred.{IsKeptOf}
pub use Rattle.mesh_io.proofs.Fronts.{keeps_same}
pub use Rattle.mesh_io.proofs.Pieces.{one_cut, one_put, stops_in}
pub use Rattle.mesh_io.specs.Airs.{Report}
pub use Rattle.mesh_io.specs.Told.{TellsMore}
pub use Rattle.mesh_run.specs.Ends.{Completes, EndsRun, FinishesTurns, RouterEnds, RouterMakes, Spends, ToldNothing}
pub use Rattle.mesh_run.specs.Run.{ArePortsAttached, IsTold, RouterRunMakes, RunsShort, SpendsTurns, StatesSetup, ToldInCall, WholeRouterRun, told}
pub use Rattle.mesh_run.specs.Text.{IsReport, ReachesEnd}
pub use Rattle.mesh_run.specs.Turns.Parts.{Acts, Broken, Going, Hands, HearsInVain, HearsInterface, IsReady, KeepsEvent, Stopped, Turning, at, counted, no_frame}
pub use Rattle.mesh_run.specs.Turns.Turns.{AreHanded, CameToNothing, DoesEvent, DoesTurns, Position, RunsTurns, StopsTurns, attached_report, ear_of, ended_by, greatest_of, handed, heard_at, moment_of, tally_of, tick_of}
pub use Rattle.mesh_run.specs.Turns.Turns.CameToNothing.{A_moment, An_ear, Nothing}
pub use Rattle.mesh_run.specs.Turns.Turns.RunsTurns.{Stays, Then_begins, Then_listens}
pub use Rattle.mesh_run.specs.declared.fault.RunFault.{RunFault}
pub use Rattle.mesh_run.specs.declared.turns.tally.Ended.{Ended}
pub use Rattle.mesh_run.specs.declared.turns.tally.Tally.{Tally}
pub use Rattle.mesh_texts.specs.machine.Machine.{Event, First_event, Hear, IsOpening, No_events, Step, Steps, Tick, Ticked, due}
pub use Rattle.mesh_texts.specs.machine.declared.frame.Frame.{Frame}
pub use Rattle.std.proofs.Common.{All, Bool, Err, List, None, Ok, OnOk, Option, Result, Some, [], ap, append_assoc, arith, cond, drop, get_or, inl, inr, length, map, max, min, nat_le, refl, subst, sym, take, ℕ, ◌++◌, ◌+◌, ◌-◌, ◌<◌, ◌^◌, ◌∙◌, ◌∷◌, ◌≡◌, ◌≤◌}
pub use Rattle.std.proofs.lemmas.Grind.{common_steps, flat_map-append}
pub use Rattle.std.proofs.lemmas.List.{append-nil, length-append, map-append, take_more}
