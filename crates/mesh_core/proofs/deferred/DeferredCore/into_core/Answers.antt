use Rattle.mesh_core.proofs.Common.{sym, subst, Sound, CoreValue}
use Rattle.mesh_core.proofs.deferred.DeferredCore.into_core.Goals as goal

pub invariant_of-result : goal.invariant_of-result
invariant_of-result g c = λ whole. subst (λ (v : CoreValue). Sound v.state) (sym c.self.view_is) c.requires
