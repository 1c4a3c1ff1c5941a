use Rattle.mesh_hello.proofs.Common.{ap, sym, ◌∙◌, ◌++◌, arith}
use Rattle.mesh_hello.proofs.Collect.{keys_all, keys_put}
use Rattle.mesh_hello.proofs.lists.put_table_keys.Goals as goal

pub loop-place-preserved : goal.loop-place-preserved
loop-place-preserved g c =
    keys_put (g.T.Table.content c.args.table.now) c.loop-place.place c.in-Some.key.now (c.in-Some.field-0-1.now, c.in-Some.field-0-2) c.args.keys.now.items c.loop-place.keys.items _
    (sym c.in-Some.ensures) c.loop-place.invariant c.in_ok-push-in-Some.ensures.items

pub returns : goal.returns
returns g c = c.loop-place.invariant ∙ ap (λ ks. c.args.keys.now.items ++ ks) (keys_all (g.T.Table.content c.args.table.now) c.loop-place.place (omega arith))
