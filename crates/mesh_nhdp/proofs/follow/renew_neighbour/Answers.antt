use Rattle.mesh_nhdp.proofs.Common.{List, subst, on_ok_weaker, Addr4, Replaces}
use Rattle.mesh_nhdp.proofs.follow.renew_neighbour.Goals as goal

pub returns : goal.returns
returns g c =
    rw (← c.sets.view_is) (on_ok_weaker c.follow_links_of.result (λ F. record {
      replaced = c.replace.new.self;
      replaces = subst (λ (xs : List Addr4). Replaces c.args.neighbour.now.telling.now.originator xs c.args.neighbour.now.telling.now.willing c.args.neighbour.now.telling.now.routing c.args.now c.sets.inside.neighbours c.replace.new.self) c.as_slice.ensures c.in_ok-replace.ensures.ok;
      follows = F;
    }) c.follow_links_of.ensures)
