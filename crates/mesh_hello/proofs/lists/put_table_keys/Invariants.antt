use Rattle.mesh_hello.proofs.Common.{◌≡◌, ◌++◌, take, keys_of}
use Rattle.mesh_hello.proofs.lists.put_table_keys.Given as goal

abbrev pub invariant-loop-place : goal.invariant-loop-place
invariant-loop-place g l = l.keys.items ≡ l.fn.keys.items ++ keys_of (take l.place (g.T.Table.content l.table))
