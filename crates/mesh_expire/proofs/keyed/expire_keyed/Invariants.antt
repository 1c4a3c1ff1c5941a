use Rattle.mesh_expire.proofs.Common.{◌≡◌, ◌≤◌, length, find, if_live}
use Rattle.mesh_expire.specs.Keyed.{AreKeys}
use Rattle.mesh_expire.proofs.keyed.expire_keyed.Given as goal

abbrev pub invariant-loop-gone : goal.invariant-loop-gone
invariant-loop-gone g l =
    let eq = g.K.PartialEq.eq in
    let base = g.T.Table.content l.table in
    let old = g.T.Table.content l.initial.table in
    record {
      keys : AreKeys eq g.K.Ord.cmp l.keys base;
      live : (q : g.row.K.Denot) → if_live l.now (find eq base q) ≡ if_live l.now (find eq old q);
      few : length base ≤ length old;
      all : length base ≡ length old → base ≡ old;
    }

abbrev pub decreases-loop-gone : goal.decreases-loop-gone
decreases-loop-gone g l = length (g.T.Table.content l.table)
