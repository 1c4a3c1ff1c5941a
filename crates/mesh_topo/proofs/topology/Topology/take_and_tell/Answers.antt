use Rattle.mesh_topo.proofs.Soundness.{tc_fresh, tc_sound}
use Rattle.mesh_topo.proofs.topology.Topology.take_and_tell.Goals as goal

pub returns-clause-fresh : goal.returns-clause-fresh
returns-clause-fresh g c = rw (← c.self.view_is) (tc_fresh c.args.now c.args.tc.now _ _ c.take.result c.take.ensures.ok)

pub returns-clause-sound : goal.returns-clause-sound
returns-clause-sound g c = rw (← c.self.view_is) (tc_sound c.args.now c.args.tc.now _ _ c.take.result c.take.ensures.ok c.take.ensures.within)
