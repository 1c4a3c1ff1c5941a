use Rattle.mesh_bases.proofs.Common.{refl, sym, None, AddressWidth}
use Rattle.mesh_machine.proofs.Originators.{not_other}
use Rattle.mesh_bases.proofs.reading.heading.heading_of_tc.Goals as goal

pub returns : goal.returns
returns c = record {
  kind = sym c.requires.kind;
  width = not_other _ 4 (λ other. c.requires.keeps 32 None (AddressWidth other));
  originator = c.requires.reads.originator;
  sequence = c.requires.reads.sequence;
  limit = refl;
  count = refl;
}
