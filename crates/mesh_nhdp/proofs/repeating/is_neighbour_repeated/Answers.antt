use Rattle.mesh_nhdp.proofs.Common.{◌≡◌, Some, sym, subst, Addr4, Neighbour, Base, find, addr_eq}
use Rattle.mesh_nhdp.proofs.repeating.is_neighbour_repeated.Goals as goal

pub returns : goal.returns
returns g c = λ told. record {
  one = (c.in-Some.neighbour.now, c.in-Some.field-0-1);
  stands = subst (λ (b : Base Addr4 Neighbour). find addr_eq b c.args.telling.now.originator ≡ Some (c.in-Some.neighbour.now, c.in-Some.field-0-1)) c.table.ensures.content (sym c.in-Some.ensures);
  addrs = c.is_told.ensures.addrs told;
  willing = c.is_told.ensures.willing told;
  selector = c.is_told.ensures.selector told;
}
