use Rattle.mesh_dump.proofs.Common.{ap, sym, ◌∙◌, eqb-true, one_put, one_cut, answers_stop, MakesOne, empty_line, IsListing}
use Rattle.mesh_io.specs.declared.stop.Stop.TheVariants as stop
use Rattle.mesh_dump.proofs.EmptyLines.{empty_listing}
use Rattle.mesh_dump.proofs.listing.write_line.Goals as goal

pub returns-then-is_empty-clause-leaves : goal.returns-then-is_empty-clause-leaves
returns-then-is_empty-clause-leaves g c =
    let text = c.text.result.now in
    let listing = empty_listing c.args.recode c.args.number c.args.line.now text (eqb-true _ _ (sym c.is_empty.ensures ∙ c.if-is_empty.true)) (c.text.ensures ∙ ap empty_line c.go_to.ensures) in
    one_put (IsListing c.args.recode c.args.number c.args.line.now) _ _ 1 text listing c.in_ok-write_all.ensures.whole

pub returns-in_err-write_all-clause-leaves : goal.returns-in_err-write_all-clause-leaves
returns-in_err-write_all-clause-leaves g c =
    let text = c.text.result.now in
    let listing = empty_listing c.args.recode c.args.number c.args.line.now text (eqb-true _ _ (sym c.is_empty.ensures ∙ c.if-is_empty.true)) (c.text.ensures ∙ ap empty_line c.go_to.ensures) in
    let w = c.in_err-write_all.ensures in
    let Is = IsListing c.args.recode c.args.number c.args.line.now in
    answers_stop (MakesOne Is) _ _ _ _ stop.Write c.from_residual.result c.from_residual.ensures.1 (one_cut Is _ _ _ _ 1 text listing w.failed w.part)

pub returns-in_err-write_all-2-clause-leaves : goal.returns-in_err-write_all-2-clause-leaves
returns-in_err-write_all-2-clause-leaves g c =
    let put = c.in_ok-refused.ensures in
    let w = c.in_err-write_all-2.ensures in
    let Is = IsListing c.args.recode c.args.number c.args.line.now in
    answers_stop (MakesOne Is) _ _ _ _ stop.Write c.from_residual-in_err-write_all-2.result c.from_residual-in_err-write_all-2.ensures.1
    (one_cut Is _ _ _ _ c.in_ok-refused.refused put.0 put.2 w.failed (rw (c.as_slice.ensures, put.1, c.clear.ensures) at w.part))

pub returns-clause-leaves : goal.returns-clause-leaves
returns-clause-leaves g c =
    let put = c.in_ok-refused.ensures in
    one_put (IsListing c.args.recode c.args.number c.args.line.now) _ _ c.in_ok-refused.refused put.0 put.2 (rw (c.as_slice.ensures, put.1, c.clear.ensures) at c.in_ok-write_all-2.ensures.whole)
