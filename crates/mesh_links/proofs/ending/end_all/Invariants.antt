use Rattle.mesh_links.proofs.Common.{◌≡◌, ◌≤◌, ℕ, length, Some, Contains, AllWithin, Link, LinkKey, link_eq, find, HasDistinctKeys, Spares, IsKeptOrGone}
use Rattle.mesh_links.proofs.ending.end_all.Given as goal

abbrev pub invariant-loop-addr : goal.invariant-loop-addr
invariant-loop-addr g l =
    let before = g.T.Table.content l.initial.table in
    let now = g.T.Table.content l.table in
    record {
      within : length now ≤ length before;
      distinct : HasDistinctKeys link_eq now;
      left : (key : LinkKey) → IsKeptOrGone (λ e. Spares l.fn.which e.0 → ⊥) (find link_eq before key) (find link_eq now key);
      done : AllWithin (λ a. (key : LinkKey) (e : Link × ℕ) → find link_eq now key ≡ Some e → Contains e.0.addrs a → Spares l.fn.which e.0) l.addrs 0 l.addr-index;
    }
