-- The names that the proofs of this crate cite of its definitions and of the crates below, passed on from one place.
pub use Rattle.mesh_atoms.specs.Advertised.{AreTcRows}
pub use Rattle.mesh_atoms.specs.RelayGraphs.{AreRelays}
pub use Rattle.mesh_atoms.specs.Routes.{AreRoutes}
pub use Rattle.mesh_atoms.specs.Sound.{Sound, SoundNeighbourhood, SoundTopology}
pub use Rattle.mesh_atoms.specs.State.{Bases, IsOriginator, Neighbourhood, State}
pub use Rattle.mesh_atoms.specs.declared.addr.Addr4.{Addr4}
pub use Rattle.mesh_atoms.specs.declared.graphs.Route.{Route}
pub use Rattle.mesh_atoms.specs.declared.refusal.Refusal.{Refusal}
pub use Rattle.mesh_atoms.specs.declared.tc.TcRow.{TcRow}
pub use Rattle.mesh_atoms.specs.declared.tuples.Relays.{Relays}
pub use Rattle.mesh_bases.proofs.RowMoments.{rows_stay, some_or_none}
pub use Rattle.mesh_bases.proofs.Staying.{relays_kept, routes_kept, rows_kept}
pub use Rattle.mesh_bases.specs.Held.Held.{Held}
pub use Rattle.mesh_bases.specs.Held.Outbox.{OnlyAppends}
pub use Rattle.mesh_bases.specs.Held.RouterState.{router_state}
pub use Rattle.mesh_bases.specs.Renewed.{HasDerived, IsAnsnAfter, IsEmptiedAt}
pub use Rattle.mesh_bases.specs.declared.derived.Derived.{Derived}
pub use Rattle.mesh_bases.specs.declared.held.quiet.Quiet.{Quiet}
pub use Rattle.mesh_core.specs.Deferred.{IsButForDerived, IsKeptOf, IsSoundButForDerived}
pub use Rattle.mesh_core.specs.Event.Ending.{GivesRelays, GivesRoutes, GivesRows, IsBeforeEvent}
pub use Rattle.mesh_core.specs.Event.Outdated.{IsCurrent, IsKeptFor, KeepsWanted}
pub use Rattle.mesh_core.specs.Event.Promises.{HearsAndKeeps, HearsTo, TakesBack, TicksTo, kept_answer}
pub use Rattle.mesh_core.specs.Event.Until.{HearsUntil, StepsUntil, TicksUntil}
pub use Rattle.mesh_core.specs.Holding.{CoreValue}
pub use Rattle.mesh_core.specs.declared.event.outdated.EventWants.{EventWants}
pub use Rattle.mesh_core.specs.declared.event.outdated.Outdated.{Outdated}
pub use Rattle.mesh_machine.proofs.Effects.{hears_due, hears_last, hears_settings, since_appends, since_is, since_same, ticks_due}
pub use Rattle.mesh_machine.proofs.Opening.{opening_sound}
pub use Rattle.mesh_machine.proofs.Sendables.{hears_sendable, ticks_sendable}
pub use Rattle.mesh_machine.proofs.Soundness.{bases_of, live_bases_sound, messages_sound, renews_sound, step_sound}
pub use Rattle.mesh_machine.specs.Frames.{sent_since}
pub use Rattle.mesh_machine.specs.Laws.{SoundBases}
pub use Rattle.mesh_machine.specs.Machine.{Event, Hear, Heard_frame, Hears, HearsPacket, Step, Tick, Ticked, TicksAt, due}
pub use Rattle.mesh_machine.specs.Renewal.{Renews}
pub use Rattle.mesh_machine.specs.Sendable.{AreOctets, IsSendable}
pub use Rattle.mesh_machine.specs.declared.arrival.Arrival.{Arrival}
pub use Rattle.mesh_machine.specs.declared.fate.Fate.{Fate}
pub use Rattle.mesh_machine.specs.declared.fate.Heard.{Heard}
pub use Rattle.mesh_machine.specs.declared.frame.Frame.{Frame}
pub use Rattle.mesh_packet.specs.Grammar.{FirstFault}
pub use Rattle.mesh_routes.proofs.SameBases.{tables_of}
pub use Rattle.std.proofs.Common.{All, Bool, Err, IfOk, IsTrue, List, Ok, OnErr, OnOk, Result, [], ap, arith, false, inl, inr, is_err, length, not, refl, subst, sym, take, true, ℕ, ◌++◌, ◌<◌, ◌||◌, ◌∙◌, ◌≡◌, ◌≤◌, ◌⊎◌}
pub use Rattle.std.proofs.lemmas.Bool.{le-leb, true≢false}
pub use Rattle.std.proofs.lemmas.Grind.{common_steps}
pub use Rattle.std.proofs.lemmas.List.{append-nil, append_assoc, take_at}
pub use Rattle.std.proofs.lemmas.Result.{on_ok_weaker}
