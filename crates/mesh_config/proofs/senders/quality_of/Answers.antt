use Rattle.mesh_config.proofs.Common.{List, length, sym, ap, ◌∙◌, ltb-false, Addr4, QualityStep}
use Rattle.mesh_config.proofs.Qualities.{steps_stated, steps_none}
use Rattle.mesh_config.proofs.senders.quality_of.Goals as goal

pub returns-in_ok-copy-in-Some : goal.returns-in_ok-copy-in-Some
returns-in_ok-copy-in-Some c =
    let found = c.in-Some.ensures.lookup in let pair : List QualityStep → Addr4 × List QualityStep = λ steps. (c.args.sender, steps) in
    ap pair (c.in_ok-copy-in-Some.ensures ∙ sym (steps_stated c.args.stated.now c.args.number c.in-Some.arc.now found.1 found.3.0))

pub returns-in-None : goal.returns-in-None
returns-in-None c =
    let pair : List QualityStep → Addr4 × List QualityStep = λ steps. (c.args.sender, steps) in
    ap pair (c.new.ensures ∙ sym (steps_none c.args.stated.now c.args.number (ltb-false c.args.number (length c.args.stated.now) (sym c.in-None.ensures.lookup.0))))
