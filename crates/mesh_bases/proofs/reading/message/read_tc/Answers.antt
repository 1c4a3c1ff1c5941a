use Rattle.mesh_bases.proofs.Common.{Tc_breaks}
use Rattle.mesh_bases.proofs.ReadingLemmas.Faults.{if_broken_more}
use Rattle.mesh_bases.proofs.reading.message.read_tc.Goals as goal

pub returns-in-Err : goal.returns-in-Err
returns-in-Err c = c.broken.ensures _ (if_broken_more c.in-Err.fault (λ number net first. Tc_breaks net c.requires.kind first) c.in-Err.ensures.reads.broken)
