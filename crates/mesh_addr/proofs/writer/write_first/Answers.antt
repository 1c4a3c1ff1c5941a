use Rattle.mesh_addr.proofs.Common.{◌≡◌, ◌++◌, ap, ◌∙◌, on_ok_weaker, PrefixForm, WroteLeast, text_of, form_of}
use Rattle.mesh_addr.proofs.Fewest.{least_of_first}
use Rattle.mesh_addr.proofs.writer.write_first.Goals as goal

pub returns-clause-least : goal.returns-clause-least
returns-clause-least c =
    let first = c.args.first.now in
    let addrs = c.args.addrs.now in
    let choice = c.best_choice-choice.result in
    let text = λ (form : PrefixForm). text_of c.args.width first addrs choice form in
    on_ok_weaker {P = c.write_spelling.new.out ≡ c.args.out.now ++ text c.form_of-form.result} {Q = WroteLeast c.args.width addrs c.args.out.now c.write_spelling.new.out} c.write_spelling.result
    (λ e. (text (form_of c.args.width first addrs), e ∙ ap (λ (form : PrefixForm). c.args.out.now ++ text form) c.form_of-form.ensures, least_of_first c.args.width first addrs choice c.requires.first c.requires.writable c.best_choice-choice.ensures.best))
    c.write_spelling.ensures.ok
