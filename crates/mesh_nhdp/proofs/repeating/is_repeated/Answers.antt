use Rattle.mesh_nhdp.proofs.Common.{subst, false≢true, Link, LinkKey, Base, Neighbourhood, told_of, RepeatsLink, RepeatsNeighbour}
use Rattle.mesh_nhdp.proofs.repeating.is_repeated.Goals as goal

pub returns-in-Some : goal.returns-in-Some
returns-in-Some g c = λ linked. record {
  link = subst (λ (b : Base LinkKey Link). RepeatsLink c.args.now (told_of c.args.telling.now) b) c.in-Some.ensures (c.is_link_repeated.ensures linked);
  neighbour = subst (λ (n : Neighbourhood). RepeatsNeighbour (told_of c.args.telling.now) n.neighbours) c.sets.view_is (c.is_neighbour_repeated.ensures c.if-not-is_neighbour_repeated.false);
}

pub returns-in-None : goal.returns-in-None
returns-in-None g c = λ linked. absurd (false≢true linked)
