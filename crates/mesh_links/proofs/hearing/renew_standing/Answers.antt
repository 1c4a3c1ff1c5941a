use Rattle.mesh_links.proofs.Common.{subst, refl, Some, ℕ, Link, SetsOnly, link_eq, link_equiv, sets-changed_at}
use Rattle.mesh_links.proofs.Tied.{fewer_changed, fewer_same, fewer_twice}
use Rattle.mesh_links.proofs.Room.{room_changed}
use Rattle.mesh_links.proofs.Tables.{sets_again, set_there}
use Rattle.mesh_links.proofs.hearing.renew_standing.Goals as goal

pub returns-clause-ok : goal.returns-clause-ok
returns-clause-ok g c link found =
    let old = g.T.Table.content c.args.table.now in
    let mid = g.T.Table.content c.renew_value-until.new.table in
    let new = g.T.Table.content c.set_until.new.self in
    let (after, is, one) = c.renew_value-until.ensures.renewed link found in
    let there = set_there link_eq old mid c.args.key (Some (after, c.args.until)) (link_equiv.refl c.args.key) one in
    let two : SetsOnly link_eq mid new c.args.key (Some (after, c.renew_value-until.result)) =
    rw c.in_ok-set_until.ensures.ok (sets-changed_at link_equiv c.args.key (λ e. (e.0, c.renew_value-until.result)) mid (after, c.args.until) there) in
    subst (λ (e : Link × ℕ). SetsOnly link_eq old new c.args.key (Some e)) is (sets_again link_eq old mid new c.args.key (Some (after, c.args.until)) (Some (after, c.renew_value-until.result)) one two)

pub returns-clause-room : goal.returns-clause-room
returns-clause-room g c = rw c.in_ok-set_until.ensures.ok (room_changed (g.T.Table.content c.renew_value-until.new.table) c.args.key (λ e. (e.0, c.renew_value-until.result)) c.renew_value-until.ensures.room (λ e low. low))

pub returns-in_err-set_until-clause-fewer : goal.returns-in_err-set_until-clause-fewer
returns-in_err-set_until-clause-fewer g c =
    fewer_twice (g.T.Table.content c.args.table.now) (g.T.Table.content c.renew_value-until.new.table) (g.T.Table.content c.set_until.new.self) c.renew_value-until.ensures.fewer
    (fewer_same (g.T.Table.content c.renew_value-until.new.table) (g.T.Table.content c.set_until.new.self) c.in_err-set_until.ensures.err)

pub returns-clause-fewer : goal.returns-clause-fewer
returns-clause-fewer g c =
    fewer_twice (g.T.Table.content c.args.table.now) (g.T.Table.content c.renew_value-until.new.table) (g.T.Table.content c.set_until.new.self) c.renew_value-until.ensures.fewer
    (fewer_changed (g.T.Table.content c.renew_value-until.new.table) (g.T.Table.content c.set_until.new.self) c.args.key (λ e. (e.0, c.renew_value-until.result)) (λ f found. refl) c.in_ok-set_until.ensures.ok)
