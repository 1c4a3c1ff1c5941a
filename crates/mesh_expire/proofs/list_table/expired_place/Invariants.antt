use Rattle.mesh_expire.proofs.Common.{◌≡◌, ◌<◌, ℕ, Some, slice_get}
use Rattle.mesh_expire.proofs.list_table.expired_place.Given as goal

abbrev pub invariant-loop-i : goal.invariant-loop-i
invariant-loop-i g l = (k : ℕ) (e : g.row.K.Denot × (g.row.V.Denot × ℕ)) → k < l.i → slice_get l.entries.items k ≡ Some e → l.now < e.1.1
