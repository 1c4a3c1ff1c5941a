use Rattle.mesh_core.proofs.Common.{inl, inr, refl, some_or_none}
use Rattle.mesh_core.proofs.event.ending.renew_rows.Goals as goal

pub returns-then-is_same-clause-rows : goal.returns-then-is_same-clause-rows
returns-then-is_same-clause-rows g c = inl (c.if-is_same.true, refl)

pub returns-then-is_same-clause-ansn : goal.returns-then-is_same-clause-ansn
returns-then-is_same-clause-ansn g c = inl (refl, refl)

pub returns-then-is_same-clause-emptied : goal.returns-then-is_same-clause-emptied
returns-then-is_same-clause-emptied g c = inr (some_or_none c.args.derived.now.rows, refl)
