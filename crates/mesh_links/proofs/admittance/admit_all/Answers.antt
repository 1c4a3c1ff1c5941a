use Rattle.mesh_links.proofs.Common.{arith}
use Rattle.mesh_links.proofs.Admitted.{admits_links, one_more_admitted}
use Rattle.mesh_links.proofs.Tied.{fewer_same, fewer_twice}
use Rattle.mesh_links.proofs.admittance.admit_all.Goals as goal

pub loop-place-preserved : goal.loop-place-preserved
loop-place-preserved g c =
    let before = g.T.Table.content c.args.table.now in
    let mid = g.T.Table.content c.loop-place.table in
    let new = g.T.Table.content c.admit_at.new.table in
    let step = one_more_admitted c.args.rule.now c.args.hold c.args.now before mid new c.loop-place.place (omega (arith, c.len-place-end.ensures.value)) c.loop-place.invariant.content c.loop-place.invariant.distinct c.loop-place.invariant.room c.loop-place.invariant.fewer c.in_ok-admit_at.ensures.ok in
    record { content = step.content; distinct = step.distinct; room = step.room; fewer = step.fewer }

pub returns-in_err-admit_at-clause-fewer : goal.returns-in_err-admit_at-clause-fewer
returns-in_err-admit_at-clause-fewer g c =
    let mid = g.T.Table.content c.loop-place.table in
    let new = g.T.Table.content c.admit_at.new.table in
    fewer_twice (g.T.Table.content c.args.table.now) mid new c.loop-place.invariant.fewer (fewer_same mid new c.in_err-admit_at.ensures.err)

pub returns-clause-ok : goal.returns-clause-ok
returns-clause-ok g c = admits_links c.args.rule.now c.args.hold c.args.now (g.T.Table.content c.args.table.now) (g.T.Table.content c.loop-place.table) c.loop-place.place (omega (arith, c.len-place-end.ensures.value)) c.loop-place.invariant.content
