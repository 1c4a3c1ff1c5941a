use Rattle.mesh_probe.proofs.Common.{◌≡◌, inl, inr, arith, sym, subst, map, true, cases_lt, cases_Bool, tc_key, IsKnown}
use Rattle.mesh_probe.proofs.numbers.free_number.Goals as goal

pub loop-number-preserved : goal.loop-number-preserved
loop-number-preserved g c = λ n less. elim (cases_lt n c.loop-number.number) [
  | inl before ↦ c.loop-number.invariant n before
  | inr past ↦
      let same : n ≡ c.loop-number.number = omega (arith, less, past) in
      let t : c.is_taken.result ≡ true = elim (cases_Bool c.is_taken.result) [ inl t ↦ t | inr f ↦ absurd (let e = c.if-not-is_taken.false in cc) ] in
      subst (λ m. IsKnown (map g.R.RouterView.state c.args.routers.now) (tc_key c.args.originator m)) (sym same) (c.is_taken.ensures.0 t)
]
