use Rattle.mesh_expire.proofs.Common.{◌≡◌, ◌≤◌, length, find, if_live, IsIndexed}
use Rattle.mesh_expire.proofs.index.index_table.drop_expired.Given as goal

abbrev pub invariant-loop-gone : goal.invariant-loop-gone
invariant-loop-gone g l =
    let eq = g.K.PartialEq.eq in
    record {
      indexed : IsIndexed eq l.moments l.map.entries;
      live : (q : g.row.K.Denot) → if_live l.now (find eq l.map.entries q) ≡ if_live l.now (find eq l.fn.map.entries q);
      few : length l.map.entries ≤ length l.fn.map.entries;
      all : length l.map.entries ≡ length l.fn.map.entries → l.map.entries ≡ l.fn.map.entries;
    }

abbrev pub decreases-loop-gone : goal.decreases-loop-gone
decreases-loop-gone g l = length l.map.entries
