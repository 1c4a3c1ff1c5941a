use Rattle.mesh_emulate.proofs.Common.{◌≡◌, ◌*◌, ◌-◌, ◌^◌, ◌≤◌, length, map, take, metrics_of}
use Rattle.mesh_emulate.proofs.making.routes.route_count.Given as goal

-- memory has room for fewer than 2^58 routes of each
abbrev pub invariant-loop-router : goal.invariant-loop-router
invariant-loop-router g l = record {
  is : l.count ≡ length (metrics_of (map g.R.RouterView.state (take l.router-index l.routers)));
  few : l.count ≤ l.router-index * (2 ^ 58 - 1);
}
