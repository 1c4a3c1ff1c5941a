use Rattle.mesh_radio.proofs.Common.{refl, map}
use Rattle.mesh_radio.proofs.Standing.{router_at, may_send}
use Rattle.mesh_radio.proofs.events.tick_one.Goals as goal

pub tick-requires-clause-stands : goal.tick-requires-clause-stands
tick-requires-clause-stands g c = router_at c.args.scene.now.scenario c.args.now (map g.R.DeferringRouter.state c.args.routers.now.items) c.args.router c.requires.routers c.requires.router

pub send_all-requires-clause-ways : goal.send_all-requires-clause-ways
send_all-requires-clause-ways g c = c.requires.ways

pub send_all-requires-clause-sendable : goal.send_all-requires-clause-sendable
send_all-requires-clause-sendable g c = may_send _ _ c.requires.routers c.in_ok-tick.ensures

pub send_all-requires-clause-seed : goal.send_all-requires-clause-seed
send_all-requires-clause-seed g c = c.requires.seed

pub send_all-requires-clause-early : goal.send_all-requires-clause-early
send_all-requires-clause-early g c = c.requires.early

pub returns-clause-ticks : goal.returns-clause-ticks
returns-clause-ticks g c = record {
  moment = refl;
  router = refl;
  heard = refl;
  stepped = rw c.in_ok-sent.ensures.frames c.in_ok-tick.ensures;
  sends = c.in_ok-sent.ensures.sends;
}

pub returns-clause-seed : goal.returns-clause-seed
returns-clause-seed g c = c.in_ok-sent.ensures.seed
