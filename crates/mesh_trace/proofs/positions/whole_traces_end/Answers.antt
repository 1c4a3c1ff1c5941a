use Rattle.mesh_trace.proofs.PositionsLemmas.Fixed.{nothing_follows, none_is_longer}
use Rattle.mesh_trace.proofs.positions.whole_traces_end.Goals as goal

pub returns-clause-follows : goal.returns-clause-follows
returns-clause-follows c = nothing_follows

pub returns-clause-longer : goal.returns-clause-longer
returns-clause-longer c = none_is_longer
