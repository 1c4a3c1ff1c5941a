use Rattle.mesh_nbrs.proofs.Common.{ℕ, ap, sym, option_map, Neighbour}
use Rattle.mesh_nbrs.proofs.Owning.{disowned, not_there}
use Rattle.mesh_nbrs.proofs.owners.disown_at.Goals as goal

pub returns-in-Some : goal.returns-in-Some
returns-in-Some g c =
    disowned c.args.owners.now.entries c.disown.new.owners.entries (g.T.Table.content c.args.table.now) c.args.originator c.requires c.in-Some.neighbour.now.addrs
    (ap (option_map (λ (e : Neighbour × ℕ). e.0.addrs)) (sym c.in-Some.ensures)) (rw c.as_slice.ensures at c.disown.ensures)

pub returns-in_default : goal.returns-in_default
returns-in_default g c = not_there c.args.owners.now.entries c.args.owners.now.entries (g.T.Table.content c.args.table.now) c.args.originator c.requires (sym c.in_default.ensures)
