use Rattle.mesh_flood.proofs.Common.{◌≡◌, Option, None, subst, sym, IsSome, IsTrue, false, false≢true}
use Rattle.mesh_flood.proofs.set.FloodSet.has_key.Goals as goal

nothing : {A : Type 0} (o : Option A) → None ≡ o → IsSome o → IsTrue false
nothing {A} o is some = subst (λ (p : Option A). IsSome p) (sym is) some

pub returns-in-None : goal.returns-in-None
returns-in-None g c = rw (← c.self.view_is) (λ e. absurd (false≢true e), λ h. nothing _ c.in-None.ensures h)
