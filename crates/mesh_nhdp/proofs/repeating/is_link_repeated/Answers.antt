use Rattle.mesh_nhdp.proofs.Common.{◌≡◌, Some, sym, subst, Link, LinkKey, Base, find, link_eq}
use Rattle.mesh_nhdp.proofs.repeating.is_link_repeated.Goals as goal

pub returns : goal.returns
returns g c = λ repeated. record {
  one = (c.in-Some.link.now, c.in-Some.field-0-1);
  stands = subst (λ (b : Base LinkKey Link). find link_eq b c.args.telling.now.least ≡ Some (c.in-Some.link.now, c.in-Some.field-0-1)) c.table.ensures.content (sym c.in-Some.ensures);
  addrs = c.is_shown.ensures.addrs repeated;
  status = c.is_shown.ensures.status repeated;
}
