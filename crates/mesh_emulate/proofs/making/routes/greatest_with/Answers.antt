use Rattle.mesh_emulate.proofs.Common.{◌≡◌, ◌++◌, ◌∷◌, [], ◌+◌, ◌∙◌, ℕ, List, map, take, ap, sym, append_assoc, map-append, take_all, take_more, Route}
use Rattle.mesh_emulate.proofs.making.routes.greatest_with.Goals as goal

pub loop-route-preserved : goal.loop-route-preserved
loop-route-preserved c metrics is =
    let routes = c.args.routes.now in
    let i = c.loop-route.route-index in
    let r = c.route-item.result in
    let all : List Route → List ℕ = map (λ (x : Route). x.metric) in
    let more : all (take (i + 1) routes) ≡ all (take i routes) ++ r.metric ∷ [] =
    ap all (take_more routes i r c.loop-route-test.true ∙ ap (λ (x : Route). take i routes ++ x ∷ []) (sym c.route-item.is))
    ∙ map-append (λ (x : Route). x.metric) (take i routes) (r ∷ []) in
    rw (more, ← append_assoc) (c.greater-all.ensures (metrics ++ all (take i routes)) (c.loop-route.invariant metrics is))

pub returns : goal.returns
returns c metrics is = rw (take_all c.loop-route.route-index c.args.routes.now c.loop-route-test.false) at (c.loop-route.invariant metrics is)
