use Rattle.mesh_nhdp.proofs.Common.{on_ok_weaker, List, ap, subst, ◌∙◌, refl, Addr4, Link, LinkKey, Neighbour, Base, find, addr_eq, LinkNote, SettlesAll, RestoresBy, TellsLinksOf, symmetric_at}
use Rattle.mesh_nhdp.proofs.follow.follow_links_of.Goals as goal

pub returns : goal.returns
returns g c =
    let originator = c.args.neighbour.now.telling.now.originator in
    rw (← c.sets.view_is) (on_ok_weaker c.settle_lost.result (λ settles. record {
      rest = refl;
      distinct = c.follow.ensures.distinct;
      distinct_losts = c.settle_lost.ensures.distinct;
      notes = c.in_ok-notes.notes.items;
      notes_are = subst (λ (xs : List Addr4). TellsLinksOf c.sets.inside.links.items xs c.args.now c.in_ok-notes.notes.items) c.as_slice-listed.ensures
          (subst (λ (ls : List (Base LinkKey Link)). TellsLinksOf ls c.as_slice-listed.result.now c.args.now c.in_ok-notes.notes.items) c.deref.ensures.value c.in_ok-notes.ensures);
      neighbour = subst (λ (notes : List LinkNote). RestoresBy notes (find addr_eq c.sets.inside.neighbours originator) (find addr_eq c.follow.new.self originator)) c.deref-2.ensures.value c.in_ok-follow.ensures.one;
      others = c.in_ok-follow.ensures.others;
      losts = subst (λ (after : List Addr4). SettlesAll c.args.neighbour.now.before.now after c.args.neighbour.now.until c.sets.inside.losts c.settle_lost.new.self)
          (c.symmetric_at-after.ensures ∙ ap (λ (b : Base Addr4 Neighbour). symmetric_at (find addr_eq b originator)) c.table.ensures.content) settles;
    }) c.settle_lost.ensures.ok)
