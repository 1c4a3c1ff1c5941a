use Rattle.mesh_trace.proofs.Common.{ℕ, List, length, take, ap, ◌∙◌, Decides-eqb, not_from_Decides, slice_eq-Decides, take-append_seam}
use Rattle.mesh_trace.proofs.reading.behind.Goals as goal

pub returns-else-eq-clause-none : goal.returns-else-eq-clause-none
returns-else-eq-clause-none c none rest same =
    let front = c.args.front.now in
    let decides = slice_eq-Decides Decides-eqb c.split_at.result.0.now front c.eq.result c.eq.ensures in
    not_from_Decides c.eq.result decides c.if-eq.false
    (c.split_at.ensures.front ∙ (ap (λ (l : List ℕ). take (length front) l) same ∙ take-append_seam front rest))
