-- What the best way costs.
use Rattle.mesh_routes.proofs.Common.{inl, inr, refl, arith, List, Addr4, NeighbourLink, CostsOver, IsBestLink}

pub costs_best : (ways : List NeighbourLink) (o : Addr4) (w : NeighbourLink) → IsBestLink ways o w → CostsOver ways o w.metric
costs_best ways o w best = (w, best.stands, best.leads, (λ v has leads. elim (best.best v has leads) [ inl less ↦ omega arith | inr (tied, _) ↦ omega arith ]), refl)
