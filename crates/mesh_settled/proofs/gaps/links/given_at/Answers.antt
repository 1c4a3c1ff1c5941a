use Rattle.mesh_settled.proofs.Common.{map, IsLeastOf, seen}
use Rattle.mesh_settled.proofs.GapsLemmas.JointLemmas.{value_some, value_none}
use Rattle.mesh_settled.proofs.GapsLemmas.LinkLemmas.{given_key}
use Rattle.mesh_settled.proofs.gaps.links.given_at.Goals as goal

pub returns-in-Some : goal.returns-in-Some
returns-in-Some g c =
    given_key (seen g.R.RouterView.state c.args.site.now) (map g.R.RouterView.state c.args.site.now.routers.now) c.args.site.now.x c.args.pair.now
    c.in-Some.addr c.gap_at.result c.if-pair-site.false
    (value_some (IsLeastOf (map g.R.RouterView.state c.args.site.now.routers.now) c.args.pair.now.to c.args.pair.now.to_iface) c.end_of.result c.in-Some.addr c.in-Some.is c.end_of.ensures) c.gap_at.ensures

pub returns-in-None : goal.returns-in-None
returns-in-None g c = λ key w.
    absurd (value_none (IsLeastOf (map g.R.RouterView.state c.args.site.now.routers.now) c.args.pair.now.to c.args.pair.now.to_iface) c.end_of.result c.in-None.is c.end_of.ensures w.1 w.2)
