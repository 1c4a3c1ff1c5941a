use Rattle.mesh_links.proofs.Common.{arith, common_steps, ◌≡◌, ℕ, ap, ◌∙◌, Option, map, option_map, lookup-map_values, LinkKey, Link, Base, Expires, find, link_eq, trim, trimmed, ExpiresLinks}
use Rattle.mesh_links.proofs.Room.{room_expired}
use Rattle.mesh_links.proofs.expiry.expire_all.Goals as goal

trim_is : (now : ℕ) (o : Option (Link × ℕ)) → option_map (trimmed now) o ≡ trim now o
trim_is now o = grind (arith, common_steps)

expires_links : (now : ℕ) (old mid new : Base LinkKey Link) → Expires link_eq now old mid → new ≡ map (λ e. (e.0, trimmed now e.1)) mid → ExpiresLinks now old new
expires_links now old mid new expired trimmed_all key =
    ap (λ (l : Base LinkKey Link). find link_eq l key) trimmed_all
    ∙ lookup-map_values (trimmed now) (link_eq key) mid
    ∙ trim_is now (find link_eq mid key)
    ∙ ap (trim now) (expired key)

pub returns-clause-expired : goal.returns-clause-expired
returns-clause-expired g c = expires_links c.args.now (g.T.Table.content c.args.table.now) (g.T.Table.content c.expire-expired.new.self) (g.T.Table.content c.trim_all.new.table) c.expire-expired.ensures.kept c.trim_all.ensures.trimmed

pub returns-clause-room : goal.returns-clause-room
returns-clause-room g c = room_expired c.args.now (g.T.Table.content c.args.table.now) (g.T.Table.content c.trim_all.new.table) c.requires.room (expires_links c.args.now (g.T.Table.content c.args.table.now) (g.T.Table.content c.expire-expired.new.self) (g.T.Table.content c.trim_all.new.table) c.expire-expired.ensures.kept c.trim_all.ensures.trimmed)
