use Rattle.mesh_probe.proofs.Common.{ℕ, ◌<◌, map, At, State, HasNoted, key_of}
use Rattle.mesh_probe.proofs.numbers.is_known.Given as goal

abbrev pub invariant-loop-router : goal.invariant-loop-router
invariant-loop-router g l =
    (x : ℕ) (q : State) → x < l.router-index → At (map g.R.RouterView.state l.routers) x q → HasNoted q.bases.noted (key_of l.fn.heading) → ⊥
