use Rattle.mesh_expire.proofs.Common.{◌≡◌, ◌<◌, ℕ, Some, slice_get}
use Rattle.mesh_expire.proofs.swept_table.expired_place.Given as goal

abbrev pub invariant-loop-place : goal.invariant-loop-place
invariant-loop-place g l = (k : ℕ) (e : g.row.K.Denot × (g.row.V.Denot × ℕ)) → k < l.place → slice_get l.map.entries k ≡ Some e → l.now < e.1.1
