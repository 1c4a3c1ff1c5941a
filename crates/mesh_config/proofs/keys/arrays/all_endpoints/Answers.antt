use Rattle.mesh_config.proofs.Common.{List, ℕ, ◌∷◌, [], ◌+◌, ◌∙◌, map, drop, sym, ap, map-append, view, Addr4, endpoint_of, length_pushed, port_of, all_of, text}
use Rattle.mesh_config.proofs.KeysLemmas.Elements.{with_front, turned_more}
use Rattle.mesh_config.proofs.keys.arrays.all_endpoints.Goals as goal

pub loop-value-preserved : goal.loop-value-preserved
loop-value-preserved c =
    let vs = c.args.values.now in let i = c.loop-value.value-index in let was = c.loop-value.invariant in let all = c.loop-value.endpoints in let one = c.in-Some.endpoint in
    rw c.in_ok-push-in-Some.ensures.ok (record {
      read = was.read ∙ (turned_more (text endpoint_of) vs i c.value-item.result (port_of one) (map port_of all) c.value-item.is c.loop-value-test.true c.in-Some.ensures
          ∙ ap (λ (l : List (Addr4 × ℕ)). with_front l (all_of (text endpoint_of) (map view (drop (i + 1) vs)))) (sym (map-append port_of all (one ∷ []))));
      size = length_pushed i all one was.size;
    })
