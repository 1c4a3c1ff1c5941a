use Rattle.mesh_hello.proofs.Common.{◌≡◌, ◌↔◌, length, Contains, slice_get, Some, ap, subst, arith, Addr4, HelloRow, IsLocalAddress}
use Rattle.mesh_hello.proofs.Collect.{SomeBelow, gathers_more, item_at}
use Rattle.mesh_hello.proofs.ToldLemmas.Senders.{tells_local}
use Rattle.mesh_hello.proofs.told.sender.local_addresses.Goals as goal

pub loop-row-preserved : goal.loop-row-preserved
loop-row-preserved c =
    let at : slice_get c.args.hello.now.rows c.loop-row.row-index ≡ Some c.row-item.result =
    subst (λ rows. slice_get rows c.loop-row.row-index ≡ Some c.row-item.result) c.as_slice-row-items.ensures
    (item_at c.as_slice-row-items.result.now c.loop-row.row-index c.row-item.result c.loop-row-test.true c.row-item.is) in
    gathers_more c.args.hello.now.rows (λ (row : HelloRow) (a : Addr4). IsLocalAddress row c.args.local a) c.loop-row.row-index c.row-item.result _ _ at c.loop-row.invariant c.in_ok-add_local.ensures

pub returns : goal.returns
returns c a =
    let same = ap length c.as_slice-row-items.ensures in
    let all : c.loop-row.row-index ≡ length c.args.hello.now.rows = omega (arith, same) in
    let gathered : Contains c.loop-row.addrs.items a ↔ SomeBelow c.args.hello.now.rows (length c.args.hello.now.rows) (λ row. IsLocalAddress row c.args.local a) =
    subst (λ n. Contains c.loop-row.addrs.items a ↔ SomeBelow c.args.hello.now.rows n (λ row. IsLocalAddress row c.args.local a)) all (c.loop-row.invariant a) in
    let shows = tells_local c.args.hello.now c.args.local a in
    ((λ h. shows.0 (gathered.0 h)), (λ h. gathered.1 (shows.1 h)))
