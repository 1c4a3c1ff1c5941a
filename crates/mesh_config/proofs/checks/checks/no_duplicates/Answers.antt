use Rattle.mesh_config.proofs.Common.{sym, ap, subst, Option, SaysNothing, Fault, ValueOrFault, first}
use Rattle.mesh_config.proofs.ChecksLemmas.Links.{duplicates_same}
use Rattle.mesh_config.proofs.checks.checks.no_duplicates.Goals as goal

pub returns : goal.returns
returns c =
    let says : Option Fault → Type 0 = λ found. ValueOrFault SaysNothing found c.distinct_stated.result in
    subst says (ap first (sym (duplicates_same c.args.routers.now))) c.distinct_stated.ensures
