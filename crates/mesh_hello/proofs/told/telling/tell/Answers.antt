use Rattle.mesh_hello.proofs.Common.{◌≡◌, ◌<◌, ◌⊎◌, ◌↔◌, List, length, Contains, slice_get, Some, None, IsTrue, refl, inl, ap, sym, subst, arith, Addr4, This, Interface, TellsLocal, IsHandedIn, HasAddress, HasAddressOn, same_some, on_interface}
use Rattle.mesh_hello.proofs.Collect.{item_at, iff_on}
use Rattle.mesh_hello.proofs.ToldLemmas.Mines.{row_of, sending_some, more_some}
use Rattle.mesh_hello.proofs.told.telling.tell.Goals as goal

pub first_of-requires : goal.first_of-requires
first_of-requires c = subst (λ (xs : List Addr4). 0 < length xs) (sym c.as_slice-2.ensures)
    (sending_some c.in_ok-sending.sending (λ b. TellsLocal c.args.hello.now b This) c.args.sender c.in_ok-sending.ensures.1)

pub originator_of-originator-requires : goal.originator_of-originator-requires
originator_of-originator-requires c = subst (λ (xs : List Addr4). 0 < length xs) (sym c.as_slice-3.ensures)
    (more_some c.in_ok-sending.sending c.in_ok-listed.listed (sending_some c.in_ok-sending.sending (λ b. TellsLocal c.args.hello.now b This) c.args.sender c.in_ok-sending.ensures.1)
    (λ a has. (c.in_ok-listed.ensures.1 a).1 (inl ((c.in_ok-sending.ensures.1 a).0 has))))

pub returns : goal.returns
returns c =
    let count = ap length c.as_slice.ensures in
    let at : slice_get c.args.settings.now.interfaces c.args.iface ≡ Some c.index-as_slice-iface.result =
    subst (λ faces. slice_get faces c.args.iface ≡ Some c.index-as_slice-iface.result) c.as_slice.ensures
    (item_at c.as_slice.result.now c.args.iface c.index-as_slice-iface.result (omega (arith, count, c.requires.iface)) c.index-as_slice-iface.is) in
    let here : (a : Addr4) → Contains c.as_slice-here.result.now a ↔ HasAddressOn c.args.settings.now c.args.iface a =
    subst (λ (xs : List Addr4). (a : Addr4) → Contains xs a ↔ HasAddressOn c.args.settings.now c.args.iface a) (sym c.as_slice-here.ensures)
    (on_interface c.args.settings.now c.args.iface c.index-as_slice-iface.result at) in
    record {
      sending = c.in_ok-sending.ensures;
      least = subst (λ (xs : List Addr4). slice_get xs 0 ≡ Some c.first_of.result) c.as_slice-2.ensures c.first_of.ensures;
      listed = c.in_ok-listed.ensures;
      originator = subst (λ (xs : List Addr4). (c.args.hello.now.originator ≡ Some c.originator_of-originator.result) ⊎ ((c.args.hello.now.originator ≡ None) × Contains xs c.originator_of-originator.result))
          c.as_slice-3.ensures c.originator_of-originator.ensures;
      willing = refl;
      validity = refl;
      status = c.status_of_mine.ensures c.args.settings.now c.args.iface here;
      link_in = λ face there. subst (λ (x : Interface). IsHandedIn x c.args.sender c.metric_from.result) (same_some at there) c.metric_from.ensures;
      link_out = c.metric_to.ensures c.args.settings.now c.args.iface here;
      flooding = iff_on c.has_own_row.ensures (row_of c.args.hello.now c.as_slice-here.result.now (λ row. IsTrue row.mpr.flooding) (HasAddressOn c.args.settings.now c.args.iface) here);
      routing = iff_on c.has_own_row-2.ensures (row_of c.args.hello.now c.args.own.now (λ row. IsTrue row.mpr.routing) (HasAddress c.args.settings.now) c.requires.own);
    }
