use Rattle.mesh_paths.proofs.Common.{ℕ, ◌+◌, inl, inr, refl, subst, arith, PathRow, PutsStep, step_of, Betters, HasAsGood, IsInRange}
use Rattle.mesh_paths.proofs.ReachedLaw.{betters_by}
use Rattle.mesh_paths.proofs.frontier.offer_arc.Goals as goal

pub returns-then-has_as_good : goal.returns-then-has_as_good
returns-then-has_as_good c = inl (
  refl,
  refl,
  subst (λ (n : ℕ). HasAsGood c.args.reached.now c.args.arc.to (c.args.first.metric + n) c.args.arc.from) c.from.ensures (c.has_as_good.ensures.0 c.if-has_as_good.true),
)

pub returns : goal.returns
returns c =
    let row : ℕ → PathRow = λ n. record { node = c.args.arc.to; metric = c.args.first.metric + n; parent = c.args.arc.from } in
    inr (subst (λ (n : ℕ). Betters c.args.reached.now (row n) c.insert.new.self × IsInRange c.args.arc (row n) × PutsStep c.args.frontier.now.keys (step_of (row n)) c.put_step.new.frontier.keys) c.from.ensures (
      betters_by c.args.reached.now c.insert.new.self (row c.from.result) c.has_as_good.result c.has_as_good.ensures c.if-has_as_good.false c.in_ok-insert.ensures.updates.0,
      (omega (arith, c.requires.small), omega arith, omega arith),
      c.in_ok-put_step.ensures,
    ))
