use Rattle.mesh_emulate.proofs.MakingLemmas.StatedOnes.{name_is}
use Rattle.mesh_emulate.proofs.making.stated.name_of.Goals as goal

pub returns-clause-named : goal.returns-clause-named
returns-clause-named c = rw (c.in_ok-put_decimal.ensures.ok, c.in_ok-append.ensures.ok, c.new-name.ensures) (name_is c.args.i c.requires)
