use Rattle.mesh_bases.proofs.Common.{◌≡◌, ◌+◌, ℕ, List, length, sym, subst, ap, refl, arith, inl, inr, ◌∙◌, slice_get, Some, length_push, Addr4, NeighbourGraph, RouterSettings, Relays, AreRelaysOf, IsFloodingGraph, IsRoutingGraph}
use Rattle.mesh_bases.proofs.Pushed.{at_pushed}
use Rattle.mesh_bases.proofs.relays.relays_of.Goals as goal

pub loop-iface-preserved : goal.loop-iface-preserved
loop-iface-preserved g c = record {
  count = ap (λ (xs : List (List Addr4)). length xs) c.in_ok-push.ensures.ok ∙ (length_push c.loop-iface.flooding c.in_ok-chosen.chosen ∙ ap (λ n. n + 1) c.loop-iface.invariant.count);
  chosen = λ s now settings near sound i relays at.
      elim (at_pushed c.loop-iface.flooding c.in_ok-chosen.chosen relays i (subst (λ (xs : List (List Addr4)). slice_get xs i ≡ Some relays) c.in_ok-push.ensures.ok at)) [
        | inl before ↦ c.loop-iface.invariant.chosen s now settings near sound i relays before
        | inr last ↦
            let here : c.loop-iface.iface ≡ i = sym (last.0 ∙ c.loop-iface.invariant.count) in
            subst (λ (n : ℕ). (graph : NeighbourGraph) × IsFloodingGraph s now n graph × AreRelaysOf graph relays) here
            (subst (λ (r : List Addr4). (graph : NeighbourGraph) × IsFloodingGraph s now c.loop-iface.iface graph × AreRelaysOf graph r) last.1 (c.in_ok-chosen.ensures.flooding c.loop-iface.iface refl s now near sound))
      ];
}

pub returns : goal.returns
returns g c = λ s now settings near relays sound.
    let flooding = ap (λ (r : Relays). r.flooding) relays in
    let routing = ap (λ (r : Relays). r.routing) relays in
    record {
      interfaces = ap (λ (xs : List (List Addr4)). length xs) flooding ∙ (c.loop-iface.invariant.count ∙ ((let a = c.loop-iface-test.false in let b = c.loop-iface.auto.iface-end in let e = c.len-iface-end.ensures in omega (arith, a, b, e)) ∙ ap (λ (r : RouterSettings). length r.interfaces) (sym settings)));
      flooding = λ i list at. c.loop-iface.invariant.chosen s now settings near sound i list (subst (λ (xs : List (List Addr4)). slice_get xs i ≡ Some list) flooding at);
      routing = subst (λ (r : List Addr4). (graph : NeighbourGraph) × IsRoutingGraph s graph × AreRelaysOf graph r) (sym routing) (c.in_ok-routing.ensures.routing refl s near);
    }
