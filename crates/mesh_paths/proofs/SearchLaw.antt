-- Elements of a list with a head, and what more rows offer and meet.
use Rattle.mesh_paths.proofs.Common.{ℕ, inl, inr, List, NetAddr, Arc4, PathRow, OffersBy, MeetsBy}

-- Elements of a list with a head

-- Offers

pub offers_more : {Has More : PathRow → Type 0} (arcs : List Arc4) (from node : NetAddr) (metric : ℕ) (parent : NetAddr) → ((r : PathRow) → Has r → More r) → OffersBy Has arcs from node metric parent → OffersBy More arcs from node metric parent
offers_more arcs from node metric parent more offer = elim offer [
  | inl start ↦ inl start
  | inr (r, a, has, there, begins, ends, sum, at) ↦ inr (r, a, more r has, there, begins, ends, sum, at)
]

pub meets_more : {Has More : PathRow → Type 0} (node : NetAddr) (metric : ℕ) (parent : NetAddr) → ((r : PathRow) → Has r → More r) → MeetsBy Has node metric parent → MeetsBy More node metric parent
meets_more node metric parent more (r, has, at, good) = (r, more r has, at, good)
