use Rattle.mesh_radio.proofs.Common.{refl}
use Rattle.mesh_radio.proofs.opening.opening_scene.Goals as goal

pub returns : goal.returns
returns c = record {
  scenario_is = c.in_ok-scenario.ensures;
  ways = rw (← c.as_slice.ensures, ← c.as_slice-2.ensures) c.in_ok-ways.ensures;
  traffic = rw c.no_traffic-traffic.ensures (rw c.in_ok-scenario.ensures refl);
  due_is = refl;
  last_ticks = refl;
  now = refl;
}
