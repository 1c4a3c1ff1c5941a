use Rattle.mesh_topo.proofs.TcSetsLemmas.Saying.{says_same}
use Rattle.mesh_topo.proofs.tc_sets.tuple.TopologyTuple.is_same_but_number.Goals as goal

pub returns : goal.returns
returns g c = rw (c.eq.ensures, c.number_and_rest.ensures, c.number_and_rest-2.ensures) (says_same _ _)
