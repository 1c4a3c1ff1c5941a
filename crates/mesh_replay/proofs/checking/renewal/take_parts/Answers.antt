use Rattle.mesh_replay.proofs.Common.{◌+◌, ◌%◌, ◌≤◌, ◌∙◌, ℕ, arith, refl, sym, ap, subst, false≢true, RouterSettings, Tcs_early, Tcs_silent, router_state}
use Rattle.mesh_bases.proofs.SendingLemmas.PartRows.{runs_within}
use Rattle.mesh_replay.proofs.RouterLemmas.Following.{tcs_due}
use Rattle.mesh_replay.proofs.checking.renewal.take_parts.Goals as goal

pub returns-then-derived-clause-due : goal.returns-then-derived-clause-due
returns-then-derived-clause-due c old held next number settings = rw c.new.ensures (Tcs_early (rw next c.if-derived.true) (sym next) (sym number))

pub returns-then-not-has_to_advertise-clause-due : goal.returns-then-not-has_to_advertise-clause-due
returns-then-not-has_to_advertise-clause-due c old held next number settings =
    rw c.new-then-not-has_to_advertise.ensures (Tcs_silent (let late = c.if-derived.false in rw next (omega (arith, late))) (rw settings c.next_moment-derived.ensures)
    (λ has. false≢true (sym c.if-not-has_to_advertise.true ∙ (c.has_to_advertise.ensures (router_state held (record c.args.derived.now { next_tc = c.next_moment-derived.result })) (sym c.len.ensures) refl refl (ap (λ (r : RouterSettings). r.times.advertised_hold) settings)).1 has)) (sym number))

pub returns-clause-due : goal.returns-clause-due
returns-clause-due c old held next number settings =
    let new = router_state held (record c.args.derived.now { next_tc = c.next_moment-derived.result; sequence = (c.args.derived.now.sequence + c.len-3.result) % 65536 }) in
    tcs_due old _ _ c.in_ok-spans.spans number (let late = c.if-derived.false in rw next (omega (arith, late))) (rw settings c.next_moment-derived.ensures)
    ((c.has_to_advertise.ensures new (sym c.len.ensures) refl refl (ap (λ (r : RouterSettings). r.times.advertised_hold) settings)).0 c.if-not-has_to_advertise.false)
    (rw settings (c.in_ok-spans.ensures.cuts c.args.derived.now.rows (sym c.len-2.ensures))) (ap (λ (n : ℕ). (c.args.derived.now.sequence + n) % 65536) c.len-3.ensures)

pub returns-clause-within : goal.returns-clause-within
returns-clause-within c i span at =
    subst (λ (n : ℕ). span.first + span.len ≤ n) c.len-2.ensures (runs_within c.len-2.result c.args.settings.now.tc_rows c.in_ok-spans.spans c.in_ok-spans.ensures.spans i span at)
