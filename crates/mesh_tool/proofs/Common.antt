-- The names that the proofs of this crate cite of its definitions and of the crates below, passed on from one place.
pub use Rattle.mesh_atoms.proofs.Options.{cond_none_some, none_not, same_ok}
pub use Rattle.mesh_atoms.specs.Literals.{address_of, digits_of, is_digit, number_of, only_if, ◌>>=◌}
pub use Rattle.mesh_atoms.specs.declared.addr.Addr4.{Addr4}
pub use Rattle.mesh_config.specs.Keys.Faults.{fault, first}
pub use Rattle.mesh_config.specs.RunSettings.{FirstRunRefusal, run_refusals}
pub use Rattle.mesh_emulate.specs.declared.making.kind.Kind.{Kind}
pub use Rattle.mesh_io.proofs.Fronts.{front_first, front_second, keeps_same}
pub use Rattle.mesh_run.specs.Run.{FailsToAttach, RouterRunMakes, SpendsTurns, StatesSetup, ToldInCall}
pub use Rattle.mesh_tool.specs.Jobs.Calls.{Asks, Call, IsInput, IsInputTooLong, IsWorkedOn, PutsNothing, PutsText, ReadsNothing, SinkUse, SourceUse, UsesNoAir, air_use, sink_use}
pub use Rattle.mesh_tool.specs.Jobs.Commands.{Command, RunsSoFar, command_in, command_of}
pub use Rattle.mesh_tool.specs.Jobs.Endings.{Did, Does, DoesJob, No_command, StopsReading, TellsEnding, TellsLine, Unread, Worked}
unfoldable pub use Rattle.mesh_tool.specs.Jobs.Endings.{Leaves}
pub use Rattle.mesh_tool.specs.Jobs.Lines.{memory_line, read_line, refusal_name, words_line}
unfoldable pub use Rattle.mesh_tool.specs.Jobs.Lines.{attach_line, refused_line, turns_line}
pub use Rattle.mesh_tool.specs.Words.CommandLines.{AreEmulateOptions, AreOptions, AskFor, InAnyOrder, IsJobInRange, IsProbe, IsSend, IsTraceOption, OptionWords, PlacedOption, at_place, make_options, placed}
pub use Rattle.mesh_tool.specs.Words.Words.{command_word, emulate_option, is_without, is_word, kind_of, make_job, make_option, no_emulate_options, no_make_options, number_from, or_at, plain_jobs, plain_word, read_on, routers_of, seed_of, takes, texts, turns_of, words_of}
pub use Rattle.mesh_tool.specs.declared.words.asked.Parsing.{Parsing}
pub use Rattle.mesh_tool.specs.declared.words.job.Job.{Job}
pub use Rattle.std.proofs.Common.{Bool, Bor, Err, Global, IfOk, IsErr, IsOk, List, None, Ok, Option, Result, Some, String, [], ap, append_assoc, arith, codes, cond, drop, false, get_or, inl, inr, is_none, length, length-append, map, nat_le, not, option_map, refl, string_bytes, subst, suc, sym, take, true, zero, ℕ, ◌&&◌, ◌*◌, ◌++◌, ◌+◌, ◌-◌, ◌<◌, ◌∙◌, ◌∷◌, ◌≡◌, ◌≤◌, ◌⊎◌}
pub use Rattle.std.proofs.lemmas.Bool.{and_parts, cases_order, ltb-false}
pub use Rattle.std.proofs.lemmas.Grind.{common_steps}
pub use Rattle.std.proofs.lemmas.List.{append-nil, drop-map, drop_more, map-append, take-append-drop, take-take, take_more}
pub use Rattle.std.specs.Cmp.Lexicographic.{bytes_decides}
pub use Rattle.std.specs.Io.KnownBytes.{Appends, Consumes, IsAtEnd}
pub use Rattle.std.specs.List.{AllByRecursion, concat, flat_map}
