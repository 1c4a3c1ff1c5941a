use Rattle.mesh_dump.proofs.Common.{◌≡◌, ℕ, List, ◌++◌, ap, ◌∙◌, one_put, one_cut, answers_stop, MakesOne, total_text}
use Rattle.mesh_io.specs.declared.stop.Stop.TheVariants as stop
use Rattle.mesh_dump.proofs.listing.write_total.Goals as goal

pub returns-clause-leaves : goal.returns-clause-leaves
returns-clause-leaves g c =
    let total : List ℕ = total_text c.args.counts.lines c.args.counts.refused in
    one_put (λ (u : Unit {0}) (text : List ℕ). text ≡ total) _ _ tt c.as_slice.result.now (c.as_slice.ensures ∙ c.in_ok-put_total.ensures ∙ ap (λ (l : List ℕ). l ++ total) c.clear.ensures) c.in_ok-write_all.ensures.whole

pub returns-in_err-write_all-clause-leaves : goal.returns-in_err-write_all-clause-leaves
returns-in_err-write_all-clause-leaves g c =
    let total : List ℕ = total_text c.args.counts.lines c.args.counts.refused in
    let w = c.in_err-write_all.ensures in
    answers_stop (MakesOne (λ (u : Unit {0}) (text : List ℕ). text ≡ total)) _ _ _ _ stop.Write c.from_residual-in_err-write_all.result c.from_residual-in_err-write_all.ensures.1
    (one_cut (λ (u : Unit {0}) (text : List ℕ). text ≡ total) _ _ _ _ tt c.as_slice.result.now (c.as_slice.ensures ∙ c.in_ok-put_total.ensures ∙ ap (λ (l : List ℕ). l ++ total) c.clear.ensures) w.failed w.part)
