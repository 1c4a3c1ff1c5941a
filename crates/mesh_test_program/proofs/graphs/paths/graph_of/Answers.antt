use Rattle.std.proofs.Common.{◌≡◌, ◌++◌, ◌≤◌, inl, inr, ap, subst, arith, List, [], ◌∷◌, length, length-append, Contains}
use Rattle.std.proofs.lemmas.List.Elements.{Contains-push_cases}
use Rattle.mesh_atoms.specs.declared.graphs.Arc4.{Arc4}
use Rattle.mesh_test_program.proofs.graphs.paths.graph_of.Goals as goal

pub loop-from-preserved : goal.loop-from-preserved
loop-from-preserved c =
    let cost : 1 ≤ c.arc_of.result.metric = omega arith in
    let longer : length c.push.new.self ≡ length (c.loop-from.costly ++ (c.arc_of.result ∷ [])) = ap length c.in_ok-push.ensures.ok in
    record {
      costs = λ a has. elim (Contains-push_cases c.loop-from.costly c.arc_of.result a (subst (λ (xs : List Arc4). Contains xs a) c.in_ok-push.ensures.ok has)) [
        | inl old ↦ c.loop-from.invariant.costs a old
        | inr same ↦ subst (λ (x : Arc4). 1 ≤ x.metric) same cost
      ];
      few = omega (arith, longer, length-append c.loop-from.costly (c.arc_of.result ∷ []));
    }
