use Rattle.mesh_nhdp.proofs.Common.{on_ok_weaker, ◌↔◌, List, Contains, subst, refl, Addr4, Link, LinkKey, Neighbour, Base, find, addr_eq, LinkNote, SettlesAll, RestoresBy, TellsLinks, IsWantedAddress, Symmetric}
use Rattle.mesh_nhdp.proofs.follow.follow_links.Goals as goal

pub returns : goal.returns
returns g c = rw (← c.sets.view_is) (on_ok_weaker c.settle_lost.result (λ settles. record {
  rest = refl;
  distinct = c.expire.ensures.distinct;
  distinct_losts = c.settle_lost.ensures.distinct;
  notes = c.in_ok-notes.notes.items;
  notes_are = subst (λ (ls : List (Base LinkKey Link)). TellsLinks ls c.args.now c.in_ok-notes.notes.items) c.deref.ensures.value c.in_ok-notes.ensures;
  neighbours = λ o. subst (λ (notes : List LinkNote). RestoresBy notes (find addr_eq c.sets.inside.neighbours o) (find addr_eq c.expire.new.self o)) c.deref-2.ensures.value (c.in_ok-expire.ensures.ok o);
  after = c.in_ok-after.after.items;
  after_is = λ a. subst (λ (b : Base Addr4 Neighbour). Contains c.in_ok-after.after.items a ↔ IsWantedAddress b Symmetric a) c.table.ensures.content (c.in_ok-after.ensures a);
  losts = subst (λ (after : List Addr4). SettlesAll c.args.before.now after c.args.until c.sets.inside.losts c.settle_lost.new.self) c.deref-3.ensures.value settles;
}) c.settle_lost.ensures.ok)
