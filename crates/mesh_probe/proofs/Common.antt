-- The names that the proofs of this crate cite of its definitions and of the crates below, passed on from one place.
pub use Rattle.mesh_atoms.proofs.Lists.{contains_at, contains_cases, contains_cond, contains_head, contains_map, contains_none, contains_tail, middle_range}
pub use Rattle.mesh_atoms.proofs.Lookups.{looks_up_links, same_addr, tests_symmetric}
pub use Rattle.mesh_atoms.proofs.Options.{same_some, some_equal, some_of, true_false}
pub use Rattle.mesh_atoms.proofs.Values.{addr_itself, one_originator, same_address}
pub use Rattle.mesh_atoms.specs.Base.{Base, Expires, HasDistinctKeys, Same, addr_eq, base_of, find, flood_eq, if_live, link_eq}
pub use Rattle.mesh_atoms.specs.Codes.Codes.{IsSentCode, metric_value, time_value}
pub use Rattle.mesh_atoms.specs.Hello.{Flooding, IsRoundedUp, Says}
pub use Rattle.mesh_atoms.specs.Live.{Live, LiveNoted}
pub use Rattle.mesh_atoms.specs.Radio.{AddressOf, Adjacent, By, Itself, Joined, Joins, OriginatorOf, Router}
pub use Rattle.mesh_atoms.specs.Settled.{AreStates, At, IsLinkTo, IsTwoHopBy}
pub use Rattle.mesh_atoms.specs.State.{Bases, HasAddressOn, HasLink, HasSymmetric, HasSymmetricWith, HasTwoHop, IsOriginator, Neighbourhood, NotedMessages, State, is_symmetric, link_at, state_of}
pub use Rattle.mesh_atoms.specs.Validity.{Everywhere, IsLeastCode}
pub use Rattle.mesh_atoms.specs.declared.addr.Addr4.{Addr4}
pub use Rattle.mesh_atoms.specs.declared.codes.metric.Metric.{Metric}
pub use Rattle.mesh_atoms.specs.declared.settings.RadioArc.{RadioArc}
pub use Rattle.mesh_atoms.specs.declared.settings.RouterSettings.{RouterSettings}
pub use Rattle.mesh_atoms.specs.declared.settings.Scenario.{Scenario}
pub use Rattle.mesh_atoms.specs.declared.tc.Tc.{Tc}
pub use Rattle.mesh_atoms.specs.declared.tuples.FloodKey.{FloodKey}
pub use Rattle.mesh_atoms.specs.declared.tuples.Link.{Link}
pub use Rattle.mesh_atoms.specs.declared.tuples.LinkKey.{LinkKey}
pub use Rattle.mesh_atoms.specs.declared.tuples.Noted.{Noted}
pub use Rattle.mesh_flood.specs.Noting.{AfterNote, Notes}
pub use Rattle.mesh_flood.specs.Standing.{HasFullSet, HasNoted}
pub use Rattle.mesh_flood.specs.Verdict.{forward_by, has_no_hops, is_forwarded, is_full, is_last, is_received, key_of}
pub use Rattle.mesh_flood.specs.declared.verdict.Forward.{Forward}
pub use Rattle.mesh_flood.specs.declared.verdict.Heading.{Heading}
pub use Rattle.mesh_machine.specs.Frames.{octets_at, on_each}
pub use Rattle.mesh_machine.specs.Machine.{Hear, Heard_frame, Hears, HearsPacket, Step}
pub use Rattle.mesh_machine.specs.Messages.{ConsidersForwarding, First_message, Hello_broken, Hello_read, IsHeading, No_messages, Other_left, Other_passed, ProcessesTc, TakesMessage, TakesMessages, Tc_broken, Tc_passed, Tc_read, Tc_taken, forwarding}
pub use Rattle.mesh_machine.specs.declared.arrival.Arrival.{Arrival}
pub use Rattle.mesh_machine.specs.declared.frame.Frame.{Frame}
pub use Rattle.mesh_machine.specs.links.Links.{IsSymmetricWith, Linked, SelectorOf, Unlinked}
pub use Rattle.mesh_machine.specs.packet.Fields.{MessageFields, PacketFields}
pub use Rattle.mesh_machine.specs.packet.Grammar.{FirstFault, Spells, SpellsMessage, SpellsMessages}
pub use Rattle.mesh_machine.specs.packet.declared.packet.Span.{Span}
pub use Rattle.mesh_paths.proofs.Rows.{item_in, no, of_each, yes}
pub use Rattle.mesh_paths.proofs.Scenarios.{arc_leads_to}
pub use Rattle.mesh_paths.proofs.SettledNeighbours.{Known, address_in, apart, has_address, has_with, known_address, known_by, known_originator, neighbouring, originator_in, owner, same_settings, same_state, shown_near, shows_neighbour, state_there}
pub use Rattle.mesh_paths.specs.SettledRoutes.{IsSettledNetwork}
pub use Rattle.mesh_probe.specs.Flood.{AllHear, All_have_heard, BecomesAt, First_frame, Flood, IsInterfaceSender, Next_hears, No_frame_waits, hearers_of, is_arc_from, sent_by}
pub use Rattle.mesh_probe.specs.Hearing.{BringsTo, CanHear, FloodsTo, HearsFrame, IsLeastUnknown, IsOfInterface, IsProbeFrame, Nothing_heard, One_more, SendsOnceFrom}
pub use Rattle.mesh_probe.specs.Laws.{AllWillFlood, AreSentApart, AreUnknown, FloodOf, FloodReaches, FloodSendsOnce, IsTcOf, IsUnknown, key_of_tc, tc_key}
pub use Rattle.mesh_probe.specs.Probes.{AreReached, AreRoutersAt, HasLeastNumber, HearsOne, IfDone, IsKnown, IsProbeFlood, IsTcNoted, ListsNumbers, ProbesReach, ProbesSendOnce, ReachesAll, SendsOnce, TellsFlood, sending_of}
pub use Rattle.mesh_probe.specs.declared.coverage.Coverage.{Coverage}
pub use Rattle.mesh_probe.specs.declared.coverage.Probe.TheVariants.{Done, NoNumber}
pub use Rattle.mesh_probe.specs.declared.coverage.Sending.{Sending}
pub use Rattle.mesh_probe.specs.declared.transmission.Transmission.{Transmission}
pub use Rattle.mesh_wire.specs.Rehop.{HasHop, hopped, one_hop_on}
pub use Rattle.mesh_wire.specs.Rules.{Keeps}
pub use Rattle.mesh_wire.specs.TcRules.{BreaksTc}
pub use Rattle.mesh_wire.specs.Writes.{WritesLeastTc, alone}
pub use Rattle.std.proofs.Common.{All, Bool, Contains, IfOk, IsSome, IsTrue, List, None, Option, Result, Some, [], add-one, ap, append_assoc, arith, cond, drop, false, filter, get_or, inl, inr, is_some, length, lit≤, map, nat_eq, nat_le, not, option_map, refl, rules, slice_get, slice_index_or, slice_range, slice_set, subst, suc, sym, take, true, zero, ℕ, ◌*◌, ◌++◌, ◌+◌, ◌-◌, ◌<◌, ◌∙◌, ◌∷◌, ◌≡◌, ◌≢◌, ◌≤◌, ◌⊎◌}
pub use Rattle.std.proofs.lemmas.Bool.{and_parts, cases_Bool, cases_eq, cases_lt, eq-eqb, eqb-true, false≢true, leb-false, lt-leb, or_cases, or_parts, or_right}
pub use Rattle.std.proofs.lemmas.Grind.{common_steps}
pub use Rattle.std.proofs.lemmas.List.{append-nil, drop-append-le, drop_all, drop_more, get_or-map, length-append, length-map, map-append, map-set, take-append-drop, take-append-le, take_all}
pub use Rattle.std.proofs.lemmas.List.Elements.{All-append, All-cons, All-contains, All-head, All-nil, All-tail, Contains-append_cases, Contains-append_left, Contains-append_right, Contains-get_or, Contains-push, Contains-push_cases}
pub use Rattle.std.proofs.lemmas.Map.Keys.{IsDistinct-cons}
pub use Rattle.std.proofs.lemmas.Map.Steps.{length-le_from_distinct_below, length-le_from_keys}
pub use Rattle.std.proofs.lemmas.Option.{get_or_from_slice_get, slice_get-get_or, slice_get-map, slice_get_cases, slice_get_read, slice_get_within}
pub use Rattle.std.specs.List.{AllByRecursion, AllPairs, AllWithin, flat_map, list_any}
unfoldable pub use Rattle.std.specs.List.{IsDistinct}
