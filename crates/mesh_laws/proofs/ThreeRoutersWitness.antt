-- Three routers in a row are a settled network, with the routes that are worked out by hand.
use Rattle.mesh_laws.proofs.Common.{◌≡◌, ℕ, refl, sym, subst, arith, [], At, IsSettledAt, Sound, State, only, sound_scenario, IsSettledNetwork, AreInARow, ThreeRoutersSettle, contains_head as here}
use Rattle.mesh_laws.proofs.ThreeRouters.{one, addr, net, given, settings, has_own, two_hop_key, far, two_hop_has, scenario, state, states}
use Rattle.mesh_laws.proofs.ThreeRoutersRadio.{leads, metric, each_state, state_is, are_states}
use Rattle.mesh_laws.proofs.ThreeRoutersRoutes.{first_routes, second_routes, third_routes}
use Rattle.mesh_laws.proofs.ThreeRoutersSettled.{settled_at}
use Rattle.mesh_laws.proofs.ThreeRoutersSound.{sound, first_rows, second_rows, third_rows}

settled : (x : ℕ) (p : State) → At states x p → IsSettledAt scenario states 5 x p
settled x p at = subst (λ q. IsSettledAt scenario states 5 x q) (sym (state_is x p at)) (settled_at x p at)

settled_three : IsSettledNetwork scenario states 5
settled_three = record {
  scenario = sound_scenario scenario;
  routers = are_states;
  sound = each_state (λ x p. Sound p) (sound 0 first_routes first_rows) (sound 1 second_routes second_rows) (sound 2 third_routes third_rows);
  moment = each_state (λ x p. p.last ≡ 5) refl refl refl;
  settled = settled;
}

apart : ◌≡◌ {A = ℕ} 2 1 → ⊥
apart e = absurd (omega (arith, e))

in_a_row : AreInARow scenario (state 0) (state 1) (state 2) (addr 0) (addr 1) (addr 2) net
in_a_row = record {
  addresses = ((settings 0, refl, (0, has_own 0)), (settings 1, refl, (0, has_own 1)), (settings 2, refl, (0, has_own 2)));
  gateway = (settings 2, refl, given, here given [], refl, refl);
  first_step = (one, metric 0 1 (here 1 []), refl);
  second_step = (one, metric 1 2 (1, omega arith, refl), refl);
  no_shorter = λ near.
      (let (i, j, there, back, joined) = near in
      let (_, _, _, c) = leads 0 i 2 j there joined.out in apart (only 1 2 c));
  relays = (refl, refl, refl);
  two_hops = ((0, two_hop_key 2, far, two_hop_has 0 2 (here 2 []), refl), (0, two_hop_key 0, far, two_hop_has 2 0 (here 0 []), refl));
  advertised = (refl, refl);
  first_routes = refl;
  second_routes = refl;
  third_routes = refl;
}

pub three_settle : ThreeRoutersSettle
three_settle = (scenario, state 0, state 1, state 2, 5, addr 0, addr 1, addr 2, net, settled_three, in_a_row)
