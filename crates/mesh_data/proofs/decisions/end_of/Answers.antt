use Rattle.mesh_data.proofs.Common.{refl, length, map, At_address, Without_route, After_all}
use Rattle.mesh_data.proofs.Deciding.{at_network}
use Rattle.mesh_data.proofs.decisions.end_of.Goals as goal

pub returns-in-Here : goal.returns-in-Here
returns-in-Here g c = At_address c.in-Here.ensures

pub returns-in-Network : goal.returns-in-Network
returns-in-Network g c = at_network c.args.scenario.now (map g.R.RouterView.state c.args.routers.now) c.args.dest c.args.x (length c.args.scenario.now.routers) c.value.result c.in-Network.metric c.in-Network.ensures c.value.ensures.value

pub returns-in-Nowhere : goal.returns-in-Nowhere
returns-in-Nowhere g c = Without_route c.in-Nowhere.ensures.0 c.in-Nowhere.ensures.1

pub returns-in-Via : goal.returns-in-Via
returns-in-Via g c = After_all c.in-Via.ensures.0 c.in-Via.field-0 c.in-Via.ensures.1 refl
