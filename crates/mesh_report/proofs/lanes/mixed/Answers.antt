use Rattle.mesh_report.proofs.Common.{ℕ, ◌+◌, ◌*◌, ◌++◌, get_or, ap, ◌∙◌, arith, get_or_append_left, get_or-append_right}
use Rattle.mesh_report.proofs.Turns.{turns, first_turn, second_turn}
use Rattle.mesh_report.proofs.Vectors.{picked}
use Rattle.mesh_report.proofs.lanes.mixed.Goals as goal

pub returns-clause-first : goal.returns-clause-first
returns-clause-first c = λ k lt. picked (c.args.a ++ c.args.b) turns (2 * k) k (omega (arith, lt)) (first_turn k lt) ∙ get_or_append_left c.args.a c.args.b 0 k (omega (arith, lt, c.fits-a.0))

pub returns-clause-second : goal.returns-clause-second
returns-clause-second c = λ k lt. picked (c.args.a ++ c.args.b) turns (2 * k + 1) (16 + k) (omega (arith, lt)) (second_turn k lt) ∙ get_or-append_right c.args.a c.args.b 16 (16 + k) 0 c.fits-a.0 (omega arith) ∙ ap (λ (n : ℕ). get_or c.args.b n 0) (omega arith)
