use Rattle.mesh_replay.proofs.Common.{◌≡◌, map, drop, true, enumerate_from, Hello, TellsItems, hello_items}
use Rattle.mesh_replay.proofs.checking.hellos.tell_hellos.Given as goal

abbrev pub invariant-loop-iface : goal.invariant-loop-iface
invariant-loop-iface g l = TellsItems l.case l.fn.progress l.progress l.event (λ s. s ≡ g.R.RouterOfTrace.state l.router) (λ s. hello_items (g.R.RouterOfTrace.state l.router) true)
    (λ s. map (λ f. Hello f.0) (enumerate_from l.iface (drop l.iface (g.R.RouterOfTrace.state l.router).settings.interfaces))) true
