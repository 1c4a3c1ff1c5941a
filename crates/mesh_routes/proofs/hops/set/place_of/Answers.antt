use Rattle.mesh_routes.proofs.Common.{rules, answers_always, Route}
use Rattle.mesh_routes.proofs.HopsLemmas.Searching.{found_at, absent}
use Rattle.mesh_routes.proofs.hops.set.place_of.Goals as goal

pub returns-clause-found : goal.returns-clause-found
returns-clause-found c =
    let facts = c.binary_search_by_key.ensures in
    found_at c.args.rows.now c.requires c.args.node c.binary_search_by_key.result facts.bound (facts.position (λ (r : Route). r.dest) (answers_always _ _ _ (λ f a r g called. search rules)))

pub returns-clause-none : goal.returns-clause-none
returns-clause-none c =
    let facts = c.binary_search_by_key.ensures in
    absent c.args.rows.now c.requires c.args.node c.binary_search_by_key.result (facts.position (λ (r : Route). r.dest) (answers_always _ _ _ (λ f a r g called. search rules)))
