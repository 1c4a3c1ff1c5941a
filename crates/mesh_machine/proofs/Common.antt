-- The names that the proofs of this crate cite of its definitions and of the crates below, passed on from one place.
pub use Rattle.mesh_atoms.proofs.Lists.{all_at, contains_at, get_pushed, item_at, item_counted, length_pushed, middle_range, place_of, set_here}
pub use Rattle.mesh_atoms.proofs.Lookups.{addr_equiv, address_equiv, has_found, link_equiv, looks_up_links, looks_up_neighbours, net_equiv, network_equiv, router_equiv, same_link}
pub use Rattle.mesh_atoms.specs.AfterTc.{AfterTc, Becomes, BecomesSet, GivesAddress, GivesNetwork, GivesRouter, Is_old, Overfull, Takes, TakesTc, TcAnswer, first_overfull, is_overfull}
pub use Rattle.mesh_atoms.specs.Base.{Base, Expires, Has, HasDistinctKeys, SetsOnly, addr_eq, address_eq, base_of, find, flood_eq, host, if_live, net_eq, network_eq, router_eq}
pub use Rattle.mesh_atoms.specs.Sound.{IsWithin, Sound, SoundNeighbourhood, SoundNoted, SoundTopology}
pub use Rattle.mesh_atoms.specs.State.{Bases, HasSymmetricWith, IsOriginator, Neighbourhood, NotedMessages, State, TopologyBase, is_heard, is_symmetric, link_at, neighbour_at, state_of}
pub use Rattle.mesh_atoms.specs.declared.addr.Addr4.{Addr4}
pub use Rattle.mesh_atoms.specs.declared.addr.NetAddr.{NetAddr}
pub use Rattle.mesh_atoms.specs.declared.codes.metric.Metric.{Metric}
pub use Rattle.mesh_atoms.specs.declared.settings.RadioArc.{RadioArc}
pub use Rattle.mesh_atoms.specs.declared.settings.RouterSettings.{RouterSettings}
pub use Rattle.mesh_atoms.specs.declared.settings.Scenario.{Scenario}
pub use Rattle.mesh_atoms.specs.declared.tc.Tc.{Tc}
pub use Rattle.mesh_atoms.specs.declared.tc.TcRow.{TcRow}
pub use Rattle.mesh_atoms.specs.declared.tuples.Base.TheVariants.{Addresses, Advertisers, Forwarded, Networks, Received, Routers}
pub use Rattle.mesh_atoms.specs.declared.tuples.FloodKey.{FloodKey}
pub use Rattle.mesh_atoms.specs.declared.tuples.Neighbour.{Neighbour}
pub use Rattle.mesh_atoms.specs.declared.tuples.Noted.{Noted}
pub use Rattle.mesh_flood.specs.Noting.{AfterNote, AreWithin, Notes}
pub use Rattle.mesh_flood.specs.Verdict.{forward_by, has_no_hops, if_linked, if_noted, is_far, is_forwarded, is_full, is_last, is_received, key_of, process_of}
pub use Rattle.mesh_flood.specs.declared.verdict.Forward.{Forward}
pub use Rattle.mesh_flood.specs.declared.verdict.Heading.{Heading}
pub use Rattle.mesh_hello.specs.Saying.Said.{IsLinkWith, IsNeighbourWith, IsRelayOf}
pub use Rattle.mesh_machine.specs.Frames.{octets_at, on_each, sent_since}
pub use Rattle.mesh_machine.specs.Laws.{IsOfOctets, SoundBases}
pub use Rattle.mesh_machine.specs.Machine.{Event, First_event, Heard_frame, Hears, HearsPacket, IsOpening, No_events, Run, Step, Steps, Tick, Ticked, TicksAt, due, no_bases, no_relays}
pub use Rattle.mesh_machine.specs.Messages.{AreSpelled, ConsidersForwarding, First_message, Hello_broken, Hello_read, IsHeading, No_messages, Other_left, Other_passed, ProcessesTc, TakesMessage, TakesMessages, Tc_broken, Tc_passed, Tc_read, Tc_taken, forwarding, is_processed}
pub use Rattle.mesh_machine.specs.Net.{By_delivery, By_last_tick, By_tick, HasOnlyLastTicks, IsFirstDue, Moves, NetState, NetStep, event_of, frames_of}
pub use Rattle.mesh_machine.specs.Said.{IsFloodingRelay, IsSaidOf, is_link_symmetric, link_metric_in, link_metric_out, near_metric_in, near_metric_out, or_else}
pub use Rattle.mesh_machine.specs.Sending.{First_part, Hellos_due, Hellos_early, No_part, SendsHellos, SendsParts, SendsTcs, Tcs_due, Tcs_early, Tcs_silent}
pub use Rattle.mesh_machine.specs.Traffic.{Carries, Delivery, IsHeardFirst, IsLost, Loses, No_arcs, SendsAll, Spreads, Traffic, leaves, leaving, with_delivery, with_heard, with_loss, with_sent}
pub use Rattle.mesh_machine.specs.Ways.{AreArcsOut, AreWaysOf, EntersInterface, LeavesInterface}
pub use Rattle.mesh_machine.specs.declared.arrival.Arrival.{Arrival}
pub use Rattle.mesh_machine.specs.declared.fate.Fate.{Fate}
pub use Rattle.mesh_machine.specs.declared.fate.Heard.{Heard}
pub use Rattle.mesh_machine.specs.declared.frame.Frame.{Frame}
pub use Rattle.mesh_nhdp.proofs.Limits.{found_left, found_right, no_more}
pub use Rattle.mesh_topo.specs.Sets.{AreFew}
pub use Rattle.mesh_wire.specs.Rehop.{HasHop, hopped, one_hop_on}
pub use Rattle.mesh_wire.specs.packet.Fields.{MessageFields, PacketFields}
pub use Rattle.mesh_wire.specs.packet.Grammar.{Spells, SpellsMessage, SpellsMessages, SpellsOctet}
pub use Rattle.mesh_wire.specs.packet.declared.packet.Span.{Span}
pub use Rattle.std.proofs.Common.{All, Bool, Contains, IsTrue, List, None, Ok, Option, Some, [], add-one, ap, append-nil, append_assoc, arith, below_more, cond, count_by, drop, drop-cons, false, get_or, inl, inr, is_some, length, length-set, map, nat_eq, nat_le, nat_lt, not, refl, replicate, slice_get, slice_index, slice_range, slice_set, subst, suc, sym, take, true, true≢false, zero, ℕ, ◌%◌, ◌&&◌, ◌*◌, ◌++◌, ◌+◌, ◌<◌, ◌||◌, ◌↔◌, ◌∙◌, ◌∷◌, ◌≡◌, ◌≢◌, ◌≤◌, ◌⊎◌}
pub use Rattle.std.proofs.Math.Seq.{drop-append_seam, get_or-append_seam}
pub use Rattle.std.proofs.lemmas.Bool.{and_from, and_parts, cases_eq, eq-eqb, eqb-false, eqb-true, leb-false, ltb-false, ltb-true, or_parts}
pub use Rattle.std.proofs.lemmas.Grind.{common_steps}
pub use Rattle.std.proofs.lemmas.List.{length-append, length-map, length-replicate}
pub use Rattle.std.proofs.lemmas.List.Elements.{All-append, All-cons, All-filter, All-from_get_or, All-head, All-nil, All-push, All-tail, All-weaker}
pub use Rattle.std.proofs.lemmas.Option.{get_or_from_slice_get, none-some, slice_get-get_or, slice_get_cases, slice_get_read, slice_get_within}
pub use Rattle.std.specs.Cmp.{IsEquivalence}
pub use Rattle.std.specs.List.{enumerate_from, filter, sum}
