use Rattle.mesh_nhdp.proofs.Common.{◌≡◌, ℕ, Some, length, sym, subst, arith, Addr4, Link, find, link_eq, LinkNote, key_at, note_of, SomeBelow, adds_more, adds_so, below_contains, slice_get-get_or}
use Rattle.mesh_nhdp.proofs.notes.add_notes_among.Goals as goal

pub loop-addr-preserved : goal.loop-addr-preserved
loop-addr-preserved g c =
    adds_more c.args.addrs.now (λ (a : Addr4) (note : LinkNote). (e : Link × ℕ) × (find link_eq (g.T.Table.content c.args.table.now) (key_at a) ≡ Some e) × (note ≡ note_of c.args.now (key_at a) e)) c.loop-addr.addr-index _
    c.args.notes.now.items c.loop-addr.notes.items _ (slice_get-get_or c.args.addrs.now c.loop-addr.addr-index _ (omega arith)) c.loop-addr.invariant c.in_ok-add_note_at.ensures

pub returns : goal.returns
returns g c =
    let P : LinkNote → Addr4 → Type 0 = λ note a. (e : Link × ℕ) × (find link_eq (g.T.Table.content c.args.table.now) (key_at a) ≡ Some e) × (note ≡ note_of c.args.now (key_at a) e) in
    let all : c.loop-addr.addr-index ≡ length c.args.addrs.now = omega arith in
    adds_so c.args.notes.now.items c.loop-addr.notes.items _ _ (λ note. (
      λ s. let (a, has, (e, at, is)) = (below_contains c.args.addrs.now (P note)).0 (subst (λ n. SomeBelow c.args.addrs.now n (P note)) all s) in (key_at a, e, has, at, is),
      λ h. let (key, e, has, at, is) = h in subst (λ n. SomeBelow c.args.addrs.now n (P note)) (sym all) ((below_contains c.args.addrs.now (P note)).1 (key.addr, has, (e, at, is))),
    )) c.loop-addr.invariant
