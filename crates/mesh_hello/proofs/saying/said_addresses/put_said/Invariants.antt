use Rattle.mesh_hello.proofs.Common.{◌≡◌, ◌++◌, drop, flat_map}
use Rattle.mesh_hello.proofs.saying.said_addresses.put_said.Given as goal

abbrev pub invariant-loop-place : goal.invariant-loop-place
invariant-loop-place g l =
    l.list.items ++ flat_map (λ e. g.V.HasSaid.said e.1.0) (drop l.place (g.T.Table.content l.table)) ≡ l.fn.list.items ++ flat_map (λ e. g.V.HasSaid.said e.1.0) (g.T.Table.content l.table)
