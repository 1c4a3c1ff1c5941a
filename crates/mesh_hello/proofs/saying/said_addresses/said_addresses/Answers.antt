use Rattle.mesh_hello.proofs.Common.{ap, ◌∙◌, ◌++◌, keys_of}
use Rattle.mesh_hello.proofs.Places.{same_in_turn}
use Rattle.mesh_hello.proofs.saying.said_addresses.said_addresses.Goals as goal

pub returns-clause-same : goal.returns-clause-same
returns-clause-same g c =
    same_in_turn _ _ _ _ _ _ _ _ _ (c.in_ok-put_table_keys.ensures ∙ ap (λ ks. ks ++ keys_of (g.O.Table.content c.args.losts.now)) c.new-list.ensures.items) c.in_ok-put_own.ensures c.in_ok-put_said.ensures
    c.in_ok-put_said-2.ensures c.ascending.ensures.same
