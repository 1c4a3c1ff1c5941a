use Rattle.mesh_dump.proofs.Common.{arith, common_steps, ◌≡◌, ℕ, List, Option, Some, refl, option_map, MakesOne, all_behind, stops_behind, stops_in, answers_stop, DumpMakes, total_text, LineCounts}
use Rattle.mesh_dump.proofs.Written.{lines_first, total_more}
use Rattle.mesh_dump.proofs.listing.dump.Goals as goal

-- the line that counts
abbrev TotalMakes : LineCounts → List (List ℕ) → Option (Unit {0}) → Type 0
TotalMakes counts = MakesOne (λ (u : Unit {0}) (text : List ℕ). text ≡ total_text counts.lines counts.refused)

pub returns-in_err-counts-clause-leaves : goal.returns-in_err-counts-clause-leaves
returns-in_err-counts-clause-leaves g c = grind (arith, common_steps, answers_stop, stops_in, lines_first, c.from_residual.ensures.1, c.in_err-counts.ensures.leaves)

pub returns-clause-leaves : goal.returns-clause-leaves
returns-clause-leaves g c =
    let input : List ℕ = c.args.input.now in
    let counts = c.in_ok-counts.counts in
    let listed = c.in_ok-counts.ensures.leaves in
    all_behind (TotalMakes counts) (DumpMakes input c.args.recode) listed.0 _ _ _ tt counts.refused listed.2 c.in_ok-write_total.ensures.leaves
    (λ pieces made. total_more input c.args.recode counts listed.0 listed.1 pieces (Some tt) made)

pub returns-in_err-write_total-clause-leaves : goal.returns-in_err-write_total-clause-leaves
returns-in_err-write_total-clause-leaves g c =
    let input : List ℕ = c.args.input.now in
    let counts = c.in_ok-counts.counts in
    let listed = c.in_ok-counts.ensures.leaves in
    answers_stop (DumpMakes input c.args.recode) _ _ _ _ c.in_err-write_total.field-0.0 c.from_residual-in_err-write_total.result c.from_residual-in_err-write_total.ensures.1
    (stops_behind (TotalMakes counts) (DumpMakes input c.args.recode) (option_map (λ u. counts.refused)) listed.0 _ _ _ _ _ _ c.in_err-write_total.field-0.0 refl listed.2 c.in_ok-counts.ensures.later
    c.in_err-write_total.ensures.leaves (total_more input c.args.recode counts listed.0 listed.1))
