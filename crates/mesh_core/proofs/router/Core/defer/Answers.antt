use Rattle.mesh_core.proofs.Common.{router_state}
use Rattle.mesh_core.proofs.EventLemmas.Wholes.{whole_but}
use Rattle.mesh_core.proofs.router.Core.defer.Goals as goal

pub invariant_of-result : goal.invariant_of-result
invariant_of-result g c = λ whole.
    whole_but c.self.inside.router.outdated (router_state c.self.inside.router.holding c.self.inside.router.derived) (c.self.invariant c.if-spent.false)

pub returns-clause-sound : goal.returns-clause-sound
returns-clause-sound g c = c.self.invariant c.if-spent.false
