use Rattle.mesh_wire.proofs.Common.{◌+◌, after_hops}
use Rattle.mesh_wire.proofs.EachDistance.{kept_on}
use Rattle.mesh_wire.proofs.Further.{further}
use Rattle.mesh_wire.proofs.laws.written_for_each_distance.Goals as goal

pub returns-clause-tells : goal.returns-clause-tells
returns-clause-tells c = λ tc limit validity bytes w times hops. further (after_hops w.message limit hops) validity times w.validity_is (hops + 1)

pub returns-clause-keeps : goal.returns-clause-keeps
returns-clause-keeps c = λ tc limit validity bytes w times hops. kept_on tc limit validity bytes w times hops
