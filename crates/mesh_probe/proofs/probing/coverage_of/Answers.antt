use Rattle.mesh_probe.proofs.Common.{◌≢◌, List, subst, Sending, HearsOne, ListsNumbers}
use Rattle.mesh_probe.proofs.probing.coverage_of.Goals as goal

pub returns-clause-reached : goal.returns-clause-reached
returns-clause-reached g c =
    subst (λ (sends : List Sending). ListsNumbers (λ z. (z ≢ c.args.origin) × HearsOne c.args.scenario.now sends z) c.in_ok-reached.reached) c.as_slice-2.ensures c.in_ok-reached.ensures
