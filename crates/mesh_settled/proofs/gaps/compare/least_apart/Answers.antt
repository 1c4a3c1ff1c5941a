use Rattle.mesh_settled.proofs.Common.{arith, inl, inr}
use Rattle.mesh_settled.proofs.GapsLemmas.Apart.{held_apart, present_apart}
use Rattle.mesh_settled.proofs.gaps.compare.least_apart.Goals as goal

pub returns-in-None-Some : goal.returns-in-None-Some
returns-in-None-Some c ms ns f s = present_apart f s c.in-None-Some.b c.number.result c.in-None-Some.is-1 c.number.ensures (inl c.in-None-Some.is-0)

pub returns-in-Some-None : goal.returns-in-Some-None
returns-in-Some-None c ms ns f s = held_apart f s c.in-Some-None.a c.number-in-Some-None.result c.in-Some-None.is-0 c.number-in-Some-None.ensures (inl c.in-Some-None.is-1)

pub returns-then-a-b : goal.returns-then-a-b
returns-then-a-b c ms ns f s = held_apart f s c.in-Some-Some.a c.number-then-a-b.result c.in-Some-Some.is-0 c.number-then-a-b.ensures (inr (c.in-Some-Some.b, c.in-Some-Some.is-1, omega (arith, c.if-a-b.true)))

pub returns-else-a-b : goal.returns-else-a-b
returns-else-a-b c ms ns f s = present_apart f s c.in-Some-Some.b c.number-else-a-b.result c.in-Some-Some.is-1 c.number-else-a-b.ensures (inr (c.in-Some-Some.a, c.in-Some-Some.is-0, c.if-a-b.false))
