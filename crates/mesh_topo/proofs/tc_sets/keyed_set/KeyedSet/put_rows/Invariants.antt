use Rattle.mesh_topo.proofs.Common.{◌≡◌, ◌≤◌, ◌+◌, false, take, count_by, is_some, length, find, SaysSame, PutsRows, given}
use Rattle.mesh_topo.proofs.tc_sets.keyed_set.KeyedSet.put_rows.Given as goal

abbrev pub invariant-loop-row : goal.invariant-loop-row
invariant-loop-row g l =
    let eq = g.K.PartialEq.eq in
    record {
      put : (q : _) → PutsRows (given g.V.KeyedTuple.kind l.tc.originator l.tc.ansn) l.until l.tc.rows l.row-index q (find eq l.initial.self q) (find eq l.self q);
      same : l.changed ≡ false → SaysSame eq g.V.KeyedTuple.kind.says l.initial.self l.self;
      count : length l.self ≤ length l.initial.self + count_by (λ row. is_some (given g.V.KeyedTuple.kind l.tc.originator l.tc.ansn row)) (take l.row-index l.tc.rows);
    }
