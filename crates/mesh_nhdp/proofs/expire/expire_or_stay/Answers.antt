use Rattle.mesh_nhdp.proofs.Common.{false≢true, iff_false}
use Rattle.mesh_nhdp.proofs.Unchanged.{as_it_was, beside_live, beside_sound}
use Rattle.mesh_nhdp.proofs.expire.expire_or_stay.Goals as goal

pub returns-then-are_links_unchanged : goal.returns-then-are_links_unchanged
returns-then-are_links_unchanged g c =
    let settings = c.args.settings.now in
    let before = c.args.sets.now in
    let after = c.expire_beside.new.sets in
    let same = c.expire_beside.result in
    let stay = c.are_links_unchanged.ensures.0 c.if-are_links_unchanged.true in
    record {
      live = beside_live settings c.args.last c.args.now same before after c.requires.sound stay c.expire_beside.ensures;
      sound = beside_sound settings c.args.last c.args.now same before after c.requires.sound stay c.expire_beside.ensures;
      same = c.expire_beside.ensures.unchanged;
      when = as_it_was settings c.args.last c.args.now same before after c.requires.sound stay c.expire_beside.ensures;
    }

pub returns-in_ok-expire_all : goal.returns-in_ok-expire_all
returns-in_ok-expire_all g c = record {
  live = c.in_ok-expire_all.ensures.live;
  sound = c.in_ok-expire_all.ensures.sound;
  same = λ same. absurd (false≢true same);
  when = (λ same. absurd (false≢true same), λ all. absurd (iff_false c.are_links_unchanged.ensures c.if-are_links_unchanged.false all.links));
}
