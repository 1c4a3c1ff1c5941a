use Rattle.mesh_probe.proofs.Common.{◌≡◌, inl, inr, arith, sym, ◌∙◌, subst, map, true, Some, slice_get, cases_lt, false≢true, At, State, HasNoted, key_of, yes, no, same_some}
use Rattle.mesh_probe.proofs.Turns.{item_at, within}
use Rattle.mesh_probe.proofs.numbers.is_known.Goals as goal

pub returns-then-has_noted : goal.returns-then-has_noted
returns-then-has_noted g c =
    let state = g.R.RouterView.state in
    let i = c.loop-router.router-index in
    yes (i, state c.router-item.result, item_at state c.args.routers.now i c.router-item.result c.router-item.is c.loop-router-test.true, c.has_noted.ensures.0 c.if-has_noted.true)

pub loop-router-preserved : goal.loop-router-preserved
loop-router-preserved g c = λ x q less at has.
    let state = g.R.RouterView.state in
    let i = c.loop-router.router-index in
    let states = map state c.args.routers.now in
    elim (cases_lt x i) [
      | inl before ↦ c.loop-router.invariant x q before at has
      | inr past ↦
          let same : x ≡ i = omega (arith, less, past) in
          let here : At states i (state c.router-item.result) = item_at state c.args.routers.now i c.router-item.result c.router-item.is c.loop-router-test.true in
          let is : q ≡ state c.router-item.result = same_some (subst (λ y. slice_get states y ≡ Some q) same at.is) here.is in
          let t : c.has_noted.result ≡ true = c.has_noted.ensures.1 (subst (λ (r : State). HasNoted r.bases.noted (key_of c.args.heading.now)) is has) in
          absurd (false≢true (sym c.if-has_noted.false ∙ t))
    ]

pub returns : goal.returns
returns g c = no (λ h. (let (x, q, at, has) = h in
    let less = within g.R.RouterView.state c.args.routers.now x q at in
    let past = c.loop-router-test.false in
    c.loop-router.invariant x q (omega (arith, less, past)) at has))
