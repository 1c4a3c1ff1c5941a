use Rattle.mesh_data.proofs.Common.{◌≡◌, ℕ, inl, inr, sym, ◌∙◌, subst, arith, true, false, cases_lt, slice_get_within, HasAddress, HasAddressOn, yes, no}
use Rattle.mesh_data.proofs.decisions.is_own.Goals as goal

pub returns-then-is_on : goal.returns-then-is_on
returns-then-is_on c = yes (c.loop-j.j, c.is_on.ensures.0 c.if-is_on.true)

pub loop-j-preserved : goal.loop-j-preserved
loop-j-preserved c = λ k l has. elim (cases_lt k c.loop-j.j) [
  | inl less ↦ c.loop-j.invariant k less has
  | inr more ↦
      let same : k ≡ c.loop-j.j = omega arith in
      let t : c.is_on.result ≡ true = c.is_on.ensures.1 (subst (λ (i : ℕ). HasAddressOn c.args.settings.now i c.args.addr) same has) in
      absurd (let f : true ≡ false = sym t ∙ c.if-is_on.false in cc)
]

pub returns : goal.returns
returns c = no none
  where
    none : HasAddress c.args.settings.now c.args.addr → ⊥
    none (j, (iface, at, has)) =
        c.loop-j.invariant j (omega (arith, slice_get_within c.args.settings.now.interfaces j iface at, c.len-j-end.ensures, c.loop-j-test.false)) (iface, at, has)
