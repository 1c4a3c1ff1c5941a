use Rattle.mesh_dump.proofs.Common.{◌≡◌, ℕ, ◌+◌, List, [], ◌∷◌, ◌++◌, None, drop, refl, arith, lines, MakesOne, pieces_more, stops_behind, answers_stop, LinesMake, IsListing}
use Rattle.mesh_dump.proofs.FirstLine.{lines-at}
use Rattle.mesh_dump.proofs.Written.{one_more_line, first_lines_more, at_most_one}
use Rattle.mesh_dump.proofs.listing.write_lines.Goals as goal

pub lines-preserved : goal.lines-preserved
lines-preserved g c =
    let i = c.lines.invariant in
    let input : List ℕ = c.args.input.now in
    let line : List ℕ = c.first_line-used.result.0.now in
    let rest : List (List ℕ) = lines (drop c.lines.at input) in
    let more : List (List ℕ) = lines (drop (c.lines.at + c.first_line-used.result.1) input) in
    let cut : rest ≡ line ∷ more = lines-at input line c.lines.at c.first_line-used.result.1 c.first_line-used.ensures.line in
    let (pieces, (text, is, same), stands) = c.in_ok-refused.ensures.leaves in
    record {
      within = omega (arith, i.within, c.first_line-used.ensures.within);
      few = omega (arith, i.few, c.first_line-used.ensures.some);
      fewer = omega (arith, i.fewer, at_most_one c.args.recode (c.lines.number + 1) line c.in_ok-refused.field-0 text is);
      later = omega (arith, i.later, c.write_line.ensures.later);
      listed = (
        i.listed.0 ++ text ∷ [],
        one_more_line c.args.recode (lines input) rest more c.lines.number c.lines.refused c.in_ok-refused.field-0 line i.listed.0 text cut i.listed.1 is,
        pieces_more _ _ _ i.listed.0 (text ∷ []) i.listed.2 (rw same at stands),
      );
    }

pub returns-in_err-refused-clause-leaves : goal.returns-in_err-refused-clause-leaves
returns-in_err-refused-clause-leaves g c =
    let i = c.lines.invariant in
    let input : List ℕ = c.args.input.now in
    let line : List ℕ = c.first_line-used.result.0.now in
    let rest : List (List ℕ) = lines (drop c.lines.at input) in
    let more : List (List ℕ) = lines (drop (c.lines.at + c.first_line-used.result.1) input) in
    let cut : rest ≡ line ∷ more = lines-at input line c.lines.at c.first_line-used.result.1 c.first_line-used.ensures.line in
    answers_stop (LinesMake input c.args.recode) _ _ _ _ c.in_err-refused.field-0.0 c.from_residual.result c.from_residual.ensures.1
    (stops_behind (MakesOne (IsListing c.args.recode (c.lines.number + 1) line)) (LinesMake input c.args.recode) (λ count. None) i.listed.0 _ _ _ _ _ _ c.in_err-refused.field-0.0
    refl i.listed.2 i.later c.in_err-refused.ensures.leaves (first_lines_more input c.args.recode rest more c.lines.number c.lines.refused line i.listed.0 cut i.listed.1))
