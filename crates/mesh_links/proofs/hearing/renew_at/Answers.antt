use Rattle.mesh_links.proofs.Common.{◌≡◌, sym, ◌∙◌, Some, on_ok_weaker, Stood, Made, made, renewed, SetsOnly, link_eq, HasLinkOwners, by_result}
use Rattle.mesh_links.proofs.Renewed.{addrs-renewed}
use Rattle.mesh_links.proofs.Tied.{owned_fewer, owned_set, fewer_same}
use Rattle.mesh_links.proofs.hearing.renew_at.Goals as goal

pub returns-in-Some-clause-ok : goal.returns-in-Some-clause-ok
returns-in-Some-clause-ok g c =
    let (link, found, same) = c.in-Some.ensures.some in
    on_ok_weaker c.renew_standing.result (λ sets. ((link, c.in-Some.until), Stood (link, c.in-Some.until) found (same ∙ c.as_slice.ensures), sets)) (c.renew_standing.ensures.ok link found)

pub returns-in-None-clause-ok : goal.returns-in-None-clause-ok
returns-in-None-clause-ok g c =
    on_ok_weaker c.put_made.result (λ sets. (made c.args.hearing.now.rule.now c.args.hearing.now.shown.now c.args.hearing.now.moment, Made (λ e at same. c.in-None.ensures.none e at (same ∙ sym c.as_slice.ensures)), sets)) c.put_made.ensures.ok

pub returns-in-Some-clause-sound : goal.returns-in-Some-clause-sound
returns-in-Some-clause-sound g c = record {
  distinct = c.renew_standing.ensures.distinct;
  room = c.renew_standing.ensures.room;
  owned = owned_fewer c.args.owners.now.entries (g.T.Table.content c.args.table.now) (g.T.Table.content c.renew_standing.new.table) c.requires.sound.owned c.renew_standing.ensures.fewer;
}

pub returns-in-None-clause-sound : goal.returns-in-None-clause-sound
returns-in-None-clause-sound g c =
    let owners = c.args.owners.now.entries in
    let old = g.T.Table.content c.args.table.now in
    let new = g.T.Table.content c.put_made.new.table in
    let entry = renewed c.args.hearing.now.shown.now c.args.hearing.now.hold c.args.hearing.now.moment (made c.args.hearing.now.rule.now c.args.hearing.now.shown.now c.args.hearing.now.moment) in
    let addrs = addrs-renewed c.args.hearing.now.shown.now c.args.hearing.now.hold c.args.hearing.now.moment (made c.args.hearing.now.rule.now c.args.hearing.now.shown.now c.args.hearing.now.moment) in
    let owned = by_result (SetsOnly link_eq old new c.args.key (Some entry)) (new ≡ old) (HasLinkOwners owners new) c.put_made.result c.put_made.ensures.ok c.put_made.ensures.err
    (λ sets. owned_set owners old new c.args.key entry c.requires.sound.owned sets (rw addrs c.requires.mine) (rw addrs c.requires.first))
    (λ same. owned_fewer owners old new c.requires.sound.owned (fewer_same old new same)) in
    record { distinct = c.put_made.ensures.distinct; room = c.put_made.ensures.room; owned = owned }
