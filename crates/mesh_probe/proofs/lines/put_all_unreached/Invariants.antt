use Rattle.mesh_probe.proofs.Common.{◌≡◌, ◌++◌, filter, not, take, flat_map}
use Rattle.mesh_probe.specs.Text.{is_reached, unreached_line}
use Rattle.mesh_probe.proofs.lines.put_all_unreached.Given as goal

abbrev pub invariant-loop-router : goal.invariant-loop-router
invariant-loop-router l = l.out ≡ l.initial.out ++ flat_map (unreached_line l.scenario) (filter (λ z. not (is_reached l.coverage z)) (take l.router-index l.peers))
