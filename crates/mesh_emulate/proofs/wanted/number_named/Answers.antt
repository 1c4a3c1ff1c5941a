use Rattle.mesh_emulate.proofs.Common.{List, sym, subst, RouterSettings, HasName}
use Rattle.mesh_emulate.proofs.Preparing.{is_unknown}
use Rattle.mesh_emulate.proofs.wanted.number_named.Goals as goal

pub returns-in-Some-clause-found : goal.returns-in-Some-clause-found
returns-in-Some-clause-found c =
    subst (λ (rs : List RouterSettings). HasName rs c.args.name.now c.in-Some.x) c.as_slice.ensures c.in-Some.ensures.some

pub returns-in-None-clause-unknown : goal.returns-in-None-clause-unknown
returns-in-None-clause-unknown c =
    is_unknown c.args.scenario.now c.args.name.now c.args.option.now c.refused.result
    (λ x named. c.in-None.ensures.none x (subst (λ (rs : List RouterSettings). HasName rs c.args.name.now x) (sym c.as_slice.ensures) named)) c.refused.ensures.answer
