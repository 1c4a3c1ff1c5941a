use Rattle.mesh_topo.proofs.Common.{sym, subst, arith, ◌+◌, List, map, AreParts, PartSpan, part_of, AreSpans}
use Rattle.mesh_topo.proofs.AdvertisedLemmas.Cutting.{AreFull, one_full, spans_are, parts_are}
use Rattle.mesh_topo.proofs.advertised.spans.parts.Goals as goal

pub loop-first-preserved : goal.loop-first-preserved
loop-first-preserved c =
    let first = c.loop-first.first in
    subst (AreFull c.args.rows c.args.most (first + c.args.most)) (sym c.in_ok-push.ensures.ok) (one_full c.args.rows c.args.most first c.loop-first.spans c.loop-first.invariant c.loop-first-test.true)

pub returns-clause-spans : goal.returns-clause-spans
returns-clause-spans c =
    let first = c.loop-first.first in
    subst (AreSpans c.args.rows c.args.most) (sym c.in_ok-push-2.ensures.ok) (spans_are c.args.rows c.args.most first c.loop-first.spans c.loop-first.invariant (omega (arith, c.loop-first-test.false)) c.requires)

pub returns-clause-cuts : goal.returns-clause-cuts
returns-clause-cuts c = λ list long.
    let first = c.loop-first.first in
    subst (λ (spans : List PartSpan). AreParts c.args.most list (map (part_of list) spans)) (sym c.in_ok-push-2.ensures.ok)
    (parts_are c.args.rows c.args.most first c.loop-first.spans c.loop-first.invariant (omega (arith, c.loop-first-test.false)) c.requires list long)
