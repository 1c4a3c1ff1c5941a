use Rattle.mesh_report.proofs.Common.{common_steps, ℕ, List, ◌++◌, sym, ap, ◌∙◌, arith, decimal_digit}
use Rattle.mesh_report.proofs.Decimals.{two_digits, one_digit}
use Rattle.mesh_report.proofs.piece.TextBuffer.put_small.Goals as goal

pub push-requires : goal.push-requires
push-requires c = omega (arith, c.requires.room, one_digit c.args.number (omega (arith, c.if-number-lt10.true)))

pub put_pair-requires : goal.put_pair-requires
put_pair-requires c = grind (arith, common_steps, two_digits, c.requires.room, c.requires.most)

pub returns-then-number-lt10-clause-text : goal.returns-then-number-lt10-clause-text
returns-then-number-lt10-clause-text c = c.push.ensures ∙ ap (λ (l : List ℕ). c.args.self.now ++ l) (sym (decimal_digit c.args.number c.if-number-lt10.true))

pub returns-then-number-lt10-clause-len : goal.returns-then-number-lt10-clause-len
returns-then-number-lt10-clause-len c = grind (arith, common_steps, one_digit, c.push.ensures)

pub returns-else-number-lt10-clause-text : goal.returns-else-number-lt10-clause-text
returns-else-number-lt10-clause-text c = c.put_pair.ensures ∙ ap (λ (l : List ℕ). c.args.self.now ++ l) (sym (two_digits c.args.number (omega (arith, c.if-number-lt10.false)) c.requires.most))

pub returns-else-number-lt10-clause-len : goal.returns-else-number-lt10-clause-len
returns-else-number-lt10-clause-len c = grind (arith, common_steps, two_digits, c.put_pair.ensures, c.requires.most)
