use Rattle.mesh_replay.proofs.Common.{◌∙◌, arith, sym, Hellos_early, Hellos_due}
use Rattle.mesh_replay.proofs.checking.renewal.take_hellos.Goals as goal

pub returns-then-derived-clause-due : goal.returns-then-derived-clause-due
returns-then-derived-clause-due c old s before settings last after = Hellos_early (rw (last, before) c.if-derived.true) (after ∙ sym before)

pub returns-clause-due : goal.returns-clause-due
returns-clause-due c old s before settings last after =
    Hellos_due (let late = c.if-derived.false in rw (before, last) (omega (arith, late))) (rw (settings, last, after) c.next_moment-derived.ensures)
