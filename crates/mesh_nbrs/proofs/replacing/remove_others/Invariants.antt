use Rattle.mesh_nbrs.proofs.Common.{◌≡◌, ◌≤◌, cond, length, take, None, ◌&&◌, not, list_any, HasDistinctKeys, find, addr_eq, Owned}
use Rattle.mesh_nbrs.proofs.replacing.remove_others.Given as goal

abbrev pub invariant-loop-other : goal.invariant-loop-other
invariant-loop-other g l =
    let before = g.T.Table.content l.initial.table in
    let now = g.T.Table.content l.table in
    record {
      owned : Owned l.owners.entries now;
      gone : (o : _) → find addr_eq now o ≡ cond (list_any (λ x. addr_eq x o && not (addr_eq x l.originator)) (take l.other-index l.found)) None (find addr_eq before o);
      within : length now ≤ length before;
      distinct : HasDistinctKeys addr_eq now;
    }
