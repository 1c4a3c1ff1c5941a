use Rattle.mesh_links.proofs.Common.{◌≡◌, ap, sym, ◌∙◌, ℕ, Link, link_eq, find, renewed, link_equiv, found_some, sets-changed_at, distinct-changed_at}
use Rattle.mesh_links.proofs.Renewed.{addrs-renewed}
use Rattle.mesh_links.proofs.Tied.{fewer_changed, fewer_same}
use Rattle.mesh_links.proofs.Room.{room_changed}
use Rattle.mesh_links.proofs.Tables.{stood}
use Rattle.mesh_links.proofs.hearing.renew_value.Goals as goal

pub renew-requires-clause-sym : goal.renew-requires-clause-sym
renew-requires-clause-sym g c =
    let there = stood (λ (e : Link × ℕ). e.0) (find link_eq (g.T.Table.content c.args.table.now) c.args.key.now) c.in-Some.link.now c.in-Some.ensures.value in
    rw there.2 (c.requires.room c.args.key.now there.0 there.1)

pub returns-in-Some-clause-renewed : goal.returns-in-Some-clause-renewed
returns-in-Some-clause-renewed g c link found =
    let is : c.in-Some.link.now ≡ link = found_some _ _ _ _ c.in-Some.ensures.value found in (
      c.renew.new.link,
      c.renew.ensures.renewed ∙ ap (λ (l : Link). renewed c.args.hearing.now.shown.now c.args.hearing.now.hold c.args.hearing.now.moment (l, c.args.until)) is,
      rw (c.value_mut.follows.holds _) (sets-changed_at link_equiv c.args.key.now (λ e. (c.renew.new.link, e.1)) (g.T.Table.content c.args.table.now) (link, c.args.until) found),
    )

pub returns-in-Some-clause-room : goal.returns-in-Some-clause-room
returns-in-Some-clause-room g c = rw (c.value_mut.follows.holds _) (room_changed (g.T.Table.content c.args.table.now) c.args.key.now (λ e. (c.renew.new.link, e.1)) c.requires.room (λ e low. c.renew.ensures.sym))

pub returns-in-Some-clause-distinct : goal.returns-in-Some-clause-distinct
returns-in-Some-clause-distinct g c = rw (c.value_mut.follows.holds _) (distinct-changed_at link_eq c.args.key.now (λ e. (c.renew.new.link, e.1)) (g.T.Table.content c.args.table.now) c.value_mut.ensures.distinct)

pub returns-in-Some-clause-fewer : goal.returns-in-Some-clause-fewer
returns-in-Some-clause-fewer g c =
    fewer_changed (g.T.Table.content c.args.table.now) (g.T.Table.content (c.value_mut.follows.lender c.renew.new.link)) c.args.key.now (λ e. (c.renew.new.link, e.1))
    (λ f found. ap (λ (l : Link). l.addrs) (sym (found_some _ _ _ _ c.in-Some.ensures.value found)) ∙ sym (ap (λ (e : Link × ℕ). e.0.addrs) c.renew.ensures.renewed ∙ addrs-renewed c.args.hearing.now.shown.now c.args.hearing.now.hold c.args.hearing.now.moment (c.in-Some.link.now, c.args.until)))
    (c.value_mut.follows.holds c.renew.new.link)

pub returns-in-None-clause-fewer : goal.returns-in-None-clause-fewer
returns-in-None-clause-fewer g c = fewer_same (g.T.Table.content c.args.table.now) (g.T.Table.content c.value_mut.follows.lender-at-none) c.value_mut.follows.holds-at-none
