use Rattle.mesh_emulate.proofs.Common.{List, All, sym, subst, Sound, State}
use Rattle.mesh_emulate.proofs.Ends.{all_sound}
use Rattle.mesh_emulate.proofs.summary.put_end.Goals as goal

pub put_summary-requires : goal.put_summary-requires
put_summary-requires g c =
    subst (λ (l : List State). All Sound l) (sym c.routers-2.ensures) (all_sound c.args.scenario.now c.args.graph.now (g.N.Network.net c.args.net.now).routers c.args.scenario.now.end c.requires)
