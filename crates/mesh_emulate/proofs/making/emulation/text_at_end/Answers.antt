use Rattle.mesh_emulate.proofs.Common.{map, gap_is}
use Rattle.mesh_emulate.proofs.making.emulation.text_at_end.Goals as goal

pub returns : goal.returns
returns g c =
    let s = c.args.scenario.now in
    let gap = c.settled-gap.result in
    let (routes, tells, whole) = c.in_ok-put_made.ensures in
    record {
      routes = routes;
      tells_routes = tells;
      gap = gap;
      is_gap = gap_is s (map g.R.RouterView.state c.args.routers.now) s.end gap c.settled-gap.ensures.none c.settled-gap.ensures.first;
      whole = rw c.new-text.ensures at whole;
    }
