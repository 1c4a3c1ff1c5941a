use Rattle.mesh_emulate.proofs.Common.{inl, inr, sym, ◌∙◌, subst, arith, cases_lt, slice_get_within, HasName}
use Rattle.mesh_emulate.proofs.Preparing.{named_here, named_otherwise}
use Rattle.mesh_emulate.proofs.wanted.router_named.Goals as goal

pub returns-then-has_name-clause-some : goal.returns-then-has_name-clause-some
returns-then-has_name-clause-some c =
    named_here c.args.routers.now c.args.name.now c.loop-x.x c.index-routers-x.result c.index-routers-x.is (omega arith) (sym c.has_name.ensures ∙ c.if-has_name.true)

pub loop-x-preserved : goal.loop-x-preserved
loop-x-preserved c = λ k l has. elim (cases_lt k c.loop-x.x) [
  | inl less ↦ c.loop-x.invariant k less has
  | inr more ↦ named_otherwise c.args.routers.now c.args.name.now c.loop-x.x c.index-routers-x.result c.index-routers-x.is (omega arith) (sym c.has_name.ensures ∙ c.if-has_name.false)
      (subst (HasName c.args.routers.now c.args.name.now) (omega (arith, l, more)) has)
]

pub returns-clause-none : goal.returns-clause-none
returns-clause-none c = λ x has. c.loop-x.invariant x (omega (arith, slice_get_within c.args.routers.now x has.0 has.1, c.loop-x-test.false)) has
