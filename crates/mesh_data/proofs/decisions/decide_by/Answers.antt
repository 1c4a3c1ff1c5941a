use Rattle.mesh_data.proofs.Deciding.{decided}
use Rattle.mesh_data.proofs.decisions.decide_by.Goals as goal

pub returns : goal.returns
returns g c =
    decided (g.R.RouterView.state c.args.router.now).routes c.args.own.now c.args.dest c.next_hop.result c.copied.result c.longest_of.result c.longer_of.result c.copied.ensures c.longer_of.ensures
    c.next_hop.ensures.some c.next_hop.ensures.none c.longest_of.ensures
