use Rattle.mesh_bases.proofs.Common.{refl, Taken_in}
use Rattle.mesh_topo.specs.Answers.{answer_of}
use Rattle.mesh_bases.proofs.held.taking.read_tc.Goals as goal

pub returns-in_ok-taken-in-Do-clause-reads : goal.returns-in_ok-taken-in-Do-clause-reads
returns-in_ok-taken-in-Do-clause-reads g c = Taken_in (answer_of c.in_ok-taken-in-Do.taken) c.in-Do.is c.in_ok-taken-in-Do.ensures.ok (c.tc_read.ensures c.args.tc.now refl) c.is_processed.ensures
