use Rattle.mesh_links.proofs.Common.{◌≡◌, ◌++◌, take, drop, map, link_eq, HasDistinctKeys, admitted, HasRoom, IsFewer}
use Rattle.mesh_links.proofs.admittance.admit_all.Given as goal

abbrev pub invariant-loop-place : goal.invariant-loop-place
invariant-loop-place g l =
    let before = g.T.Table.content l.initial.table in
    let now = g.T.Table.content l.table in
    record {
      content : now ≡ map (λ e. (e.0, admitted l.rule l.hold l.now e.1)) (take l.place before) ++ drop l.place before;
      distinct : HasDistinctKeys link_eq now;
      room : HasRoom now;
      fewer : IsFewer before now;
    }
