use Rattle.mesh_links.proofs.Common.{◌≡◌, ℕ, ◌<◌, Some, slice_get, LinkKey, Link, IsLinkUnchanged}
use Rattle.mesh_links.proofs.staying.are_all_unchanged.Given as goal

abbrev pub invariant-loop-place : goal.invariant-loop-place
invariant-loop-place g l = (k : ℕ) (x : LinkKey × (Link × ℕ)) → k < l.place → slice_get (g.T.Table.content l.table) k ≡ Some x → IsLinkUnchanged l.rule l.hold l.last l.now x.1
