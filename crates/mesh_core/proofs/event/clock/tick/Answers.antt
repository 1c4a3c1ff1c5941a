use Rattle.mesh_core.proofs.Common.{on_ok_weaker, ◌++◌, length, arith, refl, sym, ap, subst, List, ◌∙◌, append_assoc, TcRow, AreTcRows, State, Derived, Frame, router_state}
use Rattle.mesh_nhdp.proofs.TcCounts.{tc_rows_few}
use Rattle.mesh_core.proofs.EventLemmas.Derivations.{before_event, derived_after, has_own, rows_at_end, rows_but_for}
use Rattle.mesh_core.proofs.EventLemmas.Ticking.{appended_twice, ticks_to}
use Rattle.mesh_core.proofs.EventLemmas.Wholes.{bases_but}
use Rattle.mesh_bases.proofs.HeldLemmas.Taken.{live_held}
use Rattle.mesh_core.proofs.event.clock.tick.Goals as goal

pub expire-requires-clause-sound : goal.expire-requires-clause-sound
expire-requires-clause-sound g c = bases_but (router_state c.args.router.now.holding c.args.router.now.derived) c.requires.ready.sound

pub end_event-requires-clause-near : goal.end_event-requires-clause-near
end_event-requires-clause-near g c =
    (live_held c.args.router.now.holding c.expire.new.self c.args.router.now.derived.last c.args.now (bases_but (router_state c.args.router.now.holding c.args.router.now.derived) c.requires.ready.sound)
    c.in_ok-quiet.ensures.live c.in_ok-quiet.ensures.settings).neighbourhood

pub end_event-requires-clause-topology : goal.end_event-requires-clause-topology
end_event-requires-clause-topology g c =
    (live_held c.args.router.now.holding c.expire.new.self c.args.router.now.derived.last c.args.now (bases_but (router_state c.args.router.now.holding c.args.router.now.derived) c.requires.ready.sound)
    c.in_ok-quiet.ensures.live c.in_ok-quiet.ensures.settings).topology

pub send_hellos-requires-clause-now : goal.send_hellos-requires-clause-now
send_hellos-requires-clause-now g c = rw c.in_ok-end_event.ensures.last c.requires.now

pub send_hellos-requires-clause-sound : goal.send_hellos-requires-clause-sound
send_hellos-requires-clause-sound g c = rw (c.in_ok-end_event.ensures.last, c.nhdp.ensures.near, c.nhdp.ensures.settings)
    (live_held c.args.router.now.holding c.expire.new.self c.args.router.now.derived.last c.args.now (bases_but (router_state c.args.router.now.holding c.args.router.now.derived) c.requires.ready.sound)
    c.in_ok-quiet.ensures.live c.in_ok-quiet.ensures.settings).neighbourhood

pub send_tcs-requires-clause-now : goal.send_tcs-requires-clause-now
send_tcs-requires-clause-now g c = rw (ap (λ (d : Derived). d.last) c.send_hellos.ensures.others, c.in_ok-end_event.ensures.last) c.requires.now

pub send_tcs-requires-clause-rows : goal.send_tcs-requires-clause-rows
send_tcs-requires-clause-rows g c =
    let before : State = router_state c.args.router.now.holding c.args.router.now.derived in
    let s : State = router_state c.expire.new.self c.end_event.new.derived in
    let begins = before_event c.args.router.now.holding c.expire.new.self c.args.router.now.derived c.args.router.now.outdated c.in_ok-quiet.quiet c.args.now c.requires.ready.sound c.requires.ready.current
    c.in_ok-quiet.ensures.settings c.in_ok-quiet.ensures.near c.in_ok-quiet.ensures.advertised in (
      s,
      subst (λ (rows : List TcRow). AreTcRows s rows) (sym (ap (λ (d : Derived). d.rows) c.send_hellos.ensures.others))
          (rows_at_end before c.args.now c.args.wants c.end_event.new.outdated s (c.in_ok-end_event.ensures.ends before s begins refl refl (has_own c.expire.new.self c.end_event.new.derived))),
    )

pub send_tcs-requires-clause-few : goal.send_tcs-requires-clause-few
send_tcs-requires-clause-few g c =
    let before : State = router_state c.args.router.now.holding c.args.router.now.derived in
    let s : State = router_state c.expire.new.self c.end_event.new.derived in
    let begins = before_event c.args.router.now.holding c.expire.new.self c.args.router.now.derived c.args.router.now.outdated c.in_ok-quiet.quiet c.args.now c.requires.ready.sound c.requires.ready.current
    c.in_ok-quiet.ensures.settings c.in_ok-quiet.ensures.near c.in_ok-quiet.ensures.advertised in
    let rows = rows_at_end before c.args.now c.args.wants c.end_event.new.outdated s (c.in_ok-end_event.ensures.ends before s begins refl refl (has_own c.expire.new.self c.end_event.new.derived)) in
    let few = tc_rows_few s c.args.now c.end_event.new.derived.rows
    (live_held c.args.router.now.holding c.expire.new.self c.args.router.now.derived.last c.args.now (bases_but (router_state c.args.router.now.holding c.args.router.now.derived) c.requires.ready.sound)
    c.in_ok-quiet.ensures.live c.in_ok-quiet.ensures.settings).neighbourhood rows in
    let same = ap (λ (d : Derived). length d.rows) c.send_hellos.ensures.others in
    omega (arith, few, same)

pub returns-clause-ticks : goal.returns-clause-ticks
returns-clause-ticks g c =
    let before : State = router_state c.args.router.now.holding c.args.router.now.derived in
    let s : State = router_state c.expire.new.self c.send_tcs.new.derived in
    let has = derived_after c.expire.new.self c.end_event.new.derived c.send_hellos.new.derived c.send_tcs.new.derived c.send_hellos.ensures.others c.send_tcs.ensures.others in
    let begins = before_event c.args.router.now.holding c.expire.new.self c.args.router.now.derived c.args.router.now.outdated c.in_ok-quiet.quiet c.args.now c.requires.ready.sound c.requires.ready.current
    c.in_ok-quiet.ensures.settings c.in_ok-quiet.ensures.near c.in_ok-quiet.ensures.advertised in
    let ends = c.in_ok-end_event.ensures.ends before s begins refl refl has in
    let same = ends.rest.same in
    let (hellos, out_hellos, are_hellos) = c.in_ok-send_hellos.ensures.sent in
    on_ok_weaker c.send_tcs.result (λ (tcs, out_tcs, are_tcs).
    ticks_to c.args.wants before c.args.now c.args.out.now c.send_tcs.new.out c.end_event.new.outdated s c.requires.ready.sound (hellos ++ tcs)
    (out_tcs ∙ (ap (λ (f : List Frame). f ++ tcs) out_hellos ∙ append_assoc c.args.out.now hellos tcs))
    (record {
      whole = ends.whole;
      leads = record {
        live = c.expire.new.self.bases;
        is_live = c.in_ok-quiet.ensures.live;
        renews = ends.leads;
        hellos = hellos;
        sends_hellos = are_hellos before ends.whole (sym c.in_ok-end_event.ensures.next_hello) (ap (λ (w : State). w.settings) same ∙ sym c.nhdp.ensures.settings)
            (ap (λ (w : State). w.bases.neighbourhood) same ∙ sym c.nhdp.ensures.near)
            (ends.rest.relays c.requires.relays ∙ ap (λ (d : Derived). d.relays) c.send_tcs.ensures.others)
            (ap (λ (w : State). w.last) same ∙ ap (λ (d : Derived). d.last) c.send_tcs.ensures.others)
            (ap (λ (w : State). w.next_hello) same ∙ ap (λ (d : Derived). d.next_hello) c.send_tcs.ensures.others);
        tcs = tcs;
        sends_tcs = are_tcs before ends.whole
            (sym c.in_ok-end_event.ensures.sequence ∙ sym (ap (λ (d : Derived). d.sequence) c.send_hellos.ensures.others))
            (sym c.in_ok-end_event.ensures.next_tc ∙ sym (ap (λ (d : Derived). d.next_tc) c.send_hellos.ensures.others))
            (ap (λ (w : State). w.settings) same ∙ sym c.settings-2.ensures) (rows_but_for c.expire.new.self c.send_tcs.new.derived ends.whole same)
            (ap (λ (w : State). w.sequence) same) (ap (λ (w : State). w.next_tc) same);
        sends = refl;
      };
      rest = ends.rest;
      current = ends.current;
    })) c.send_tcs.ensures.sent

pub returns-clause-appended : goal.returns-clause-appended
returns-clause-appended g c = appended_twice _ _ _ c.send_hellos.ensures.appended c.send_tcs.ensures.appended
