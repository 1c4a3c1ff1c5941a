use Rattle.mesh_emulate.proofs.TraceFacts.{router_at, text_put}
use Rattle.mesh_emulate.proofs.events.put_text.Goals as goal

pub returns : goal.returns
returns g c =
    let net = g.N.Network.net c.args.net.now in
    let router = c.index-routers-event.result in
    let at = router_at g.N.Router.RouterView.state c.routers-routers.result.now net.routers c.args.event.now.router router c.routers-routers.ensures c.requires.router c.index-routers-event.is in
    text_put c.args.scenario.now net c.args.event.now (g.N.Router.RouterView.state router) c.clear.new.self c.put_event.new.out c.put_event.result c.requires at c.clear.ensures c.put_event.ensures.ok
