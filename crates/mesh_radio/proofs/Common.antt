-- The names that the proofs of this crate cite of its definitions and of the crates below, passed on from one place.
pub use Rattle.mesh_atoms.proofs.Lists.{item_at, set_here}
pub use Rattle.mesh_atoms.specs.State.{State}
pub use Rattle.mesh_atoms.specs.declared.network.Emission.{Emission}
pub use Rattle.mesh_atoms.specs.declared.network.NetEvent.{NetEvent}
pub use Rattle.mesh_atoms.specs.declared.settings.RadioArc.{RadioArc}
pub use Rattle.mesh_atoms.specs.declared.settings.RouterSettings.{RouterSettings}
pub use Rattle.mesh_atoms.specs.declared.settings.Scenario.{Scenario}
pub use Rattle.mesh_core.proofs.Kept.{kept_due, kept_through, step_from}
pub use Rattle.mesh_core.specs.Deferred.{IsKeptOf}
pub use Rattle.mesh_machine.proofs.Arcs.{arc_ends}
pub use Rattle.mesh_machine.proofs.FirstDue.{IsFirstOf, first_of_all, is_earlier, is_no_earlier, very_first}
pub use Rattle.mesh_machine.proofs.Places.{all_turned, each_more, mapped_at, none_past, same_at, set_at, set_there}
pub use Rattle.mesh_machine.proofs.Sent.{first_and_others, flies_by, numbered, others_later, sent_all, sent_lost}
pub use Rattle.mesh_machine.proofs.Spreading.{Spreading, all_spread, on_carried, on_lost}
pub use Rattle.mesh_machine.specs.Machine.{Event, Hear, IsOpening, Step, due}
pub use Rattle.mesh_machine.specs.Net.{By_delivery, By_last_tick, By_tick, Delivers, HasOnlyLastTicks, IsFirstDue, IsSender, Moves, NetState, NetStep, TicksDue, TicksLast, TicksNext, event_of, frames_of}
pub use Rattle.mesh_machine.specs.NetRun.{IsOfPackets, IsOfScenario, IsOpeningNet, IsOver, NetRun}
pub use Rattle.mesh_machine.specs.Sendable.{IsPacket, IsSendable}
pub use Rattle.mesh_machine.specs.Traffic.{Delivery, IsHeardFirst, Sends, SendsAll, Traffic, frame_of, leaving, with_delivery, with_heard}
pub use Rattle.mesh_machine.specs.declared.frame.Frame.{Frame}
pub use Rattle.mesh_radio.specs.Occurrences.{emission_of, net_event_of}
pub use Rattle.mesh_radio.specs.Opening.{AreOpening, AreOpeningUpTo, IsOpeningScene}
pub use Rattle.mesh_radio.specs.Scene.{AllStays, AreKeptOf, AreRouterStates, AreSoundStates, At_end, Due_first, HadLastTicks, Happens, HasNoTick, IsAfterTick, IsAirQuiet, IsFlying, IsLeft, IsNextTick, IsSound, KeepsDue, Lands, RunsOver, Stepped, TellsEvent, TicksOne, net_of}
pub use Rattle.mesh_radio.specs.Traffic.Air.{delivery_of}
pub use Rattle.mesh_radio.specs.Traffic.Traffic.{traffic_of}
pub use Rattle.mesh_radio.specs.Value.{NetValue, states_of}
pub use Rattle.mesh_radio.specs.declared.occurrences.SentFrame.{SentFrame}
pub use Rattle.mesh_radio.specs.declared.scene.Due.{Due}
pub use Rattle.mesh_radio.specs.declared.scene.Scene.{Scene}
pub use Rattle.std.proofs.Common.{All, Bool, IfOk, IfSome, List, MatchOption, None, OnOk, Option, Result, Some, [], add-one, ap, append-nil, append_assoc, arith, false, get_or, inl, inr, is_err, length, length-append, length-set, map, min, nat_lt, option_map, refl, slice_get, slice_set, subst, sym, take, true, true≢false, ℕ, ◌++◌, ◌+◌, ◌<◌, ◌∙◌, ◌∷◌, ◌≡◌, ◌≢◌, ◌≤◌, ◌⊎◌}
pub use Rattle.std.proofs.lemmas.Grind.{common_steps}
pub use Rattle.std.proofs.lemmas.Iterator.Adapters.{YieldsList-from_vec}
pub use Rattle.std.proofs.lemmas.Iterator.Consumers.{YieldsList-end, YieldsList-turn}
pub use Rattle.std.proofs.lemmas.List.{drop_all, length-map, map-append, map-id, map-set, same_lists, take_all}
pub use Rattle.std.proofs.lemmas.List.Elements.{All-cons, All-head, All-map, All-nil, All-tail, All-weaker}
pub use Rattle.std.proofs.lemmas.Option.{get_or_from_slice_get, slice_get-get_or, slice_get_read, slice_get_within}
