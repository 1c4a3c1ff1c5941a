use Rattle.mesh_nbrs.proofs.Common.{ℕ, sym, ◌∙◌, TwoHop, two_hop_equiv, on_err_of, renewed, renewed-none}
use Rattle.mesh_nbrs.proofs.KnownLinks.{links_put, links_more}
use Rattle.mesh_nbrs.proofs.two_hops.two_hops.put_tuple.Goals as goal

pub returns-in-Some-clause-knows : goal.returns-in-Some-clause-knows
returns-in-Some-clause-knows g c =
    let base = g.T.Table.content c.args.table.now in
    let entry : TwoHop × ℕ = (c.args.tuple, c.args.until) in
    let (was, found, sets) = renewed two_hop_equiv c.args.key entry c.in-Some.before base _ (sym c.in-Some.is ∙ c.in_ok-before.ensures.before) c.in_ok-before.ensures.ok in
    links_put c.args.links.now base c.requires c.args.key entry _ (c.requires c.args.key was found) sets

pub returns-in-Some-clause-ok : goal.returns-in-Some-clause-ok
returns-in-Some-clause-ok g c =
    (renewed two_hop_equiv c.args.key (c.args.tuple, c.args.until) c.in-Some.before (g.T.Table.content c.args.table.now) _ (sym c.in-Some.is ∙ c.in_ok-before.ensures.before) c.in_ok-before.ensures.ok).2

pub returns-in_err-insert-clause-knows : goal.returns-in_err-insert-clause-knows
returns-in_err-insert-clause-knows g c =
    let same = renewed-none two_hop_equiv c.args.key (c.args.tuple, c.args.until) (g.T.Table.content c.args.table.now) _ (sym c.in_default.is ∙ c.in_ok-before.ensures.before) c.in_ok-before.ensures.ok in
    rw (same, c.in_err-insert.ensures.err) c.requires

pub returns-in_err-insert-clause-err : goal.returns-in_err-insert-clause-err
returns-in_err-insert-clause-err g c =
    on_err_of c.from_residual-in_err-insert.result
    (renewed-none two_hop_equiv c.args.key (c.args.tuple, c.args.until) (g.T.Table.content c.args.table.now) _ (sym c.in_default.is ∙ c.in_ok-before.ensures.before) c.in_ok-before.ensures.ok)

pub returns-in_err-put-clause-knows : goal.returns-in_err-put-clause-knows
returns-in_err-put-clause-knows g c =
    let base = g.T.Table.content c.args.table.now in
    let same = renewed-none two_hop_equiv c.args.key (c.args.tuple, c.args.until) base _ (sym c.in_default.is ∙ c.in_ok-before.ensures.before) c.in_ok-before.ensures.ok in
    rw (c.in_err-put.ensures.err, same) (links_more c.args.links.now base c.requires c.insert.new.self c.args.key.link c.in_ok-insert.ensures.updates)

pub returns-in_err-put-clause-err : goal.returns-in_err-put-clause-err
returns-in_err-put-clause-err g c =
    on_err_of c.from_residual-in_err-put.result
    (c.in_err-put.ensures.err ∙ renewed-none two_hop_equiv c.args.key (c.args.tuple, c.args.until) (g.T.Table.content c.args.table.now) _ (sym c.in_default.is ∙ c.in_ok-before.ensures.before) c.in_ok-before.ensures.ok)

pub returns-clause-knows : goal.returns-clause-knows
returns-clause-knows g c =
    let base = g.T.Table.content c.args.table.now in
    let entry : TwoHop × ℕ = (c.args.tuple, c.args.until) in
    let same = renewed-none two_hop_equiv c.args.key entry base _ (sym c.in_default.is ∙ c.in_ok-before.ensures.before) c.in_ok-before.ensures.ok in
    let more = links_more c.args.links.now base c.requires c.insert.new.self c.args.key.link c.in_ok-insert.ensures.updates in
    links_put c.insert.new.self base more c.args.key entry _ c.in_ok-insert.ensures.updates.1 (rw (← same) c.in_ok-put.ensures.ok)

pub returns-clause-ok : goal.returns-clause-ok
returns-clause-ok g c =
    let same = renewed-none two_hop_equiv c.args.key (c.args.tuple, c.args.until) (g.T.Table.content c.args.table.now) _ (sym c.in_default.is ∙ c.in_ok-before.ensures.before) c.in_ok-before.ensures.ok in
    rw (← same) c.in_ok-put.ensures.ok

pub returns-clause-count : goal.returns-clause-count
returns-clause-count g c =
    let same = renewed-none two_hop_equiv c.args.key (c.args.tuple, c.args.until) (g.T.Table.content c.args.table.now) _ (sym c.in_default.is ∙ c.in_ok-before.ensures.before) c.in_ok-before.ensures.ok in
    rw (← same) c.in_ok-put.ensures.count
