use Rattle.mesh_relay.proofs.Distances.{covering_keeps, covering_same}
use Rattle.mesh_relay.proofs.laws.covering_keeps_distances.Goals as goal

pub returns-clause-same : goal.returns-clause-same
returns-clause-same c = λ g relays distinct. covering_same g relays distinct

pub returns-clause-equal : goal.returns-clause-equal
returns-clause-equal c = λ g relays f a b distinct covers far here there. covering_keeps g relays f a b distinct covers far here there
