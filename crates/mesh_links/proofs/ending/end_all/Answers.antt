use Rattle.mesh_links.proofs.Common.{◌≡◌, ℕ, arith, Some, Contains, AllWithin-more, All-contains, AllWithin-upto, All-from_all_within, Link, LinkKey, Addr4, find, link_eq, Spares}
use Rattle.mesh_links.proofs.Left.{left_twice, left_kept}
use Rattle.mesh_links.proofs.Tied.{at_any, back_left, by_meeting}
use Rattle.mesh_links.proofs.ending.end_all.Goals as goal

pub loop-addr-preserved : goal.loop-addr-preserved
loop-addr-preserved g c =
    let goes : Link × ℕ → Type 0 = λ e. Spares c.args.which e.0 → ⊥ in
    let first = g.T.Table.content c.args.table.now in
    let old = g.T.Table.content c.loop-addr.table in
    let new = g.T.Table.content c.end_at.new.table in
    let done : Addr4 → Type 0 = λ a. (key : LinkKey) (e : Link × ℕ) → find link_eq new key ≡ Some e → Contains e.0.addrs a → Spares c.args.which e.0 in
    record {
      within = omega (arith, c.end_at.ensures.within);
      distinct = c.end_at.ensures.distinct;
      left = λ key. left_twice goes (find link_eq first key) (find link_eq old key) (find link_eq new key) (c.loop-addr.invariant.left key) (c.end_at.ensures.left key);
      done = AllWithin-more done c.args.addrs.now 0 c.loop-addr.addr-index
          (λ k d low high key e found has. c.loop-addr.invariant.done k d low high key e (back_left goes (find link_eq old key) (find link_eq new key) e (c.end_at.ensures.left key) found) has)
          (at_any done c.args.addrs.now c.loop-addr.addr-index _ c.loop-addr-test.true c.end_at.ensures.done);
    }

pub returns-clause-kept : goal.returns-clause-kept
returns-clause-kept g c key =
    let old = g.T.Table.content c.args.table.now in
    let new = g.T.Table.content c.loop-addr.table in
    let done : Addr4 → Type 0 = λ a. (key : LinkKey) (e : Link × ℕ) → find link_eq new key ≡ Some e → Contains e.0.addrs a → Spares c.args.which e.0 in
    let all = All-from_all_within done c.args.addrs.now (AllWithin-upto done c.args.addrs.now 0 c.loop-addr.addr-index _ c.loop-addr-test.false c.loop-addr.invariant.done) in
    left_kept (λ e. Spares c.args.which e.0) (find link_eq old key) (find link_eq new key) (c.loop-addr.invariant.left key)
    (λ e found. by_meeting e.0.addrs c.args.addrs.now (Spares c.args.which e.0) (λ a there has. All-contains done c.args.addrs.now a all there key e found has) (c.requires.others e.0))
