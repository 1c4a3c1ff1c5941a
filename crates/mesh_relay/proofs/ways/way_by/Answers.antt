use Rattle.mesh_relay.proofs.Common.{◌∙◌}
use Rattle.mesh_relay.proofs.Sought.{no_way, one_way}
use Rattle.mesh_relay.proofs.ways.way_by.Goals as goal

pub returns-in-Some-clause-way : goal.returns-in-Some-clause-way
returns-in-Some-clause-way c =
    c.way_at.ensures
    ∙ one_way c.args.graph.now c.args.willing.now c.args.far c.follow.new.self.found c.in-Some.place c.in-Some.near c.follow.ensures.found c.in-Some.is

pub returns-in-None-clause-way : goal.returns-in-None-clause-way
returns-in-None-clause-way c = no_way c.args.graph.now c.args.willing.now c.args.far c.follow.new.self.found c.follow.ensures.found c.in-None.is
