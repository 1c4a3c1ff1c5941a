use Rattle.mesh_core.proofs.Common.{refl, opening_sound, router_state}
use Rattle.mesh_core.proofs.EventLemmas.Derivations.{has_own}
use Rattle.mesh_core.proofs.router.opened.Goals as goal

pub invariant_of-result : goal.invariant_of-result
invariant_of-result g c = λ whole. opening_sound c.args.settings.now (router_state c.in_ok-holding.holding c.in_ok-derived.derived)
    (c.in_ok-derived.ensures (router_state c.in_ok-holding.holding c.in_ok-derived.derived) c.in_ok-holding.ensures.settings c.in_ok-holding.ensures.empty (has_own c.in_ok-holding.holding c.in_ok-derived.derived) (record { sequence = refl; next_hello = refl; next_tc = refl }))

pub returns-clause-opening : goal.returns-clause-opening
returns-clause-opening g c =
    c.in_ok-derived.ensures (router_state c.in_ok-holding.holding c.in_ok-derived.derived) c.in_ok-holding.ensures.settings c.in_ok-holding.ensures.empty (has_own c.in_ok-holding.holding c.in_ok-derived.derived) (record { sequence = refl; next_hello = refl; next_tc = refl })
