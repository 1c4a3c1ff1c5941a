use Rattle.mesh_probe.proofs.Common.{ℕ, ◌<◌, map, tc_key, IsKnown}
use Rattle.mesh_probe.proofs.numbers.free_number.Given as goal

abbrev pub invariant-loop-number : goal.invariant-loop-number
invariant-loop-number g l = (n : ℕ) → n < l.number → IsKnown (map g.R.RouterView.state l.routers) (tc_key l.originator n)
