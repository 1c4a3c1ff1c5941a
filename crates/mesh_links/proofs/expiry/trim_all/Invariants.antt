use Rattle.mesh_links.proofs.Common.{◌≡◌, ◌++◌, take, drop, map, link_eq, HasDistinctKeys, trimmed}
use Rattle.mesh_links.proofs.expiry.trim_all.Given as goal

abbrev pub invariant-loop-place : goal.invariant-loop-place
invariant-loop-place g l =
    let before = g.T.Table.content l.initial.table in
    record {
      content : g.T.Table.content l.table ≡ map (λ e. (e.0, trimmed l.now e.1)) (take l.place before) ++ drop l.place before;
      distinct : HasDistinctKeys link_eq (g.T.Table.content l.table);
    }
