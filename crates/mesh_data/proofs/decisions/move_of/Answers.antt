use Rattle.mesh_data.proofs.Common.{map, At_address, Without_route}
use Rattle.mesh_data.proofs.Deciding.{at_network, moved}
use Rattle.mesh_data.proofs.decisions.move_of.Goals as goal

pub returns-in-Here : goal.returns-in-Here
returns-in-Here g c = λ n less. At_address c.in-Here.ensures

pub returns-in-Network : goal.returns-in-Network
returns-in-Network g c = λ n less. at_network c.args.scenario.now (map g.R.RouterView.state c.args.routers.now) c.args.dest c.args.x n c.value.result c.in-Network.metric c.in-Network.ensures c.value.ensures.value

pub returns-in-Nowhere : goal.returns-in-Nowhere
returns-in-Nowhere g c = λ n less. Without_route c.in-Nowhere.ensures.0 c.in-Nowhere.ensures.1

pub returns-in-Via : goal.returns-in-Via
returns-in-Via g c = moved c.args.scenario.now (map g.R.RouterView.state c.args.routers.now) c.args.dest c.args.x c.in-Via.row c.move_by.result c.in-Via.ensures c.move_by.ensures
