use Rattle.mesh_links.proofs.Common.{◌≡◌, sym, ap, subst, ◌∙◌, ℕ, List, Some, slice_get, on_ok_weaker, Addr4, LinkKey, Link, Base, HasDistinctKeys, HasRoom, HasLinkOwners, SoundLinks, OwnsMore, IsKept, find, link_eq, IsApart, HearsOn}
use Rattle.mesh_links.proofs.Tied.{hears_after, owned_more, kept_from}
use Rattle.mesh_links.proofs.hearing.hear_on.Goals as goal

-- what stays of links that were sound, where the map then leads from these addresses to that key
sound_mid : (owners more : List (Addr4 × LinkKey)) (old mid : Base LinkKey Link) (sending : List Addr4) (key : LinkKey) → HasRoom old → HasDistinctKeys link_eq mid → HasLinkOwners owners mid → slice_get sending 0 ≡ Some key.addr →
    ((q : LinkKey) → IsKept (λ e. IsApart sending e.0) (find link_eq old q) (find link_eq mid q)) → OwnsMore owners more sending key → SoundLinks more mid
sound_mid owners more old mid sending key room distinct owned first kept owns =
    let from : (q : LinkKey) (e : Link × ℕ) → find link_eq mid q ≡ Some e → IsApart sending e.0 × (find link_eq old q ≡ Some e) = λ q e found. kept_from (λ x. IsApart sending x.0) (find link_eq old q) (find link_eq mid q) e (kept q) found in
    record { distinct = distinct; room = λ q e found. room q e (from q e found).1; owned = owned_more owners more mid sending key owned first (λ q e found. (from q e found).0) owns }

pub returns-in_err-own_all-in-Some-clause-sound : goal.returns-in_err-own_all-in-Some-clause-sound
returns-in_err-own_all-in-Some-clause-sound g c =
    sound_mid c.args.owners.now.entries c.own_all.new.owners.entries (g.T.Table.content c.args.table.now) (g.T.Table.content c.end_all.new.table) c.args.hearing.now.shown.now.sending (record { addr = c.in-Some.addr.now }) c.requires.sound.room c.end_all.ensures.distinct c.end_all.ensures.owned (sym c.in-Some.ensures) (rw c.as_slice-sending.ensures at c.end_all.ensures.kept) (rw c.as_slice-sending.ensures at c.own_all.ensures.more)

pub renew_at-requires-clause-sound : goal.renew_at-requires-clause-sound
renew_at-requires-clause-sound g c =
    sound_mid c.args.owners.now.entries c.own_all.new.owners.entries (g.T.Table.content c.args.table.now) (g.T.Table.content c.end_all.new.table) c.args.hearing.now.shown.now.sending (record { addr = c.in-Some.addr.now }) c.requires.sound.room c.end_all.ensures.distinct c.end_all.ensures.owned (sym c.in-Some.ensures) (rw c.as_slice-sending.ensures at c.end_all.ensures.kept) (rw c.as_slice-sending.ensures at c.own_all.ensures.more)

pub returns-in_ok-own_all-in-Some-clause-ok : goal.returns-in_ok-own_all-in-Some-clause-ok
returns-in_ok-own_all-in-Some-clause-ok g c =
    let old = g.T.Table.content c.args.table.now in
    let mid = g.T.Table.content c.end_all.new.table in
    let new = g.T.Table.content c.renew_at.new.table in
    let key : LinkKey = record { addr = c.in-Some.addr.now } in
    on_ok_weaker c.renew_at.result (λ (start, begins, sets) least at. (
    let both : Some c.in-Some.addr.now ≡ Some least.addr = c.in-Some.ensures ∙ at in
    let addr : c.in-Some.addr.now ≡ least.addr = cc in
    let same : key ≡ least = ap (λ (a : Addr4). let k : LinkKey = record { addr = a } in k) addr in
    subst (λ (k : LinkKey). HearsOn c.args.hearing.now.rule.now c.args.hearing.now.shown.now k c.args.hearing.now.hold c.args.hearing.now.moment old new) same
    (hears_after c.args.hearing.now.rule.now c.args.hearing.now.shown.now key c.args.hearing.now.hold c.args.hearing.now.moment old mid new start (rw c.as_slice-sending.ensures at c.end_all.ensures.kept) begins sets))) c.renew_at.ensures.ok
