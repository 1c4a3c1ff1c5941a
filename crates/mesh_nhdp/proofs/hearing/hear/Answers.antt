use Rattle.mesh_nhdp.proofs.Common.{◌<◌, ◌↔◌, Contains, sym, subst, inl, Addr4, This, TellsLocal, told_of, Neighbourhood, IsSpokenAddress, IsSymmetricSpokenAddress}
use Rattle.mesh_hello.proofs.ToldLemmas.Mines.{sending_some, more_some}
use Rattle.mesh_nhdp.proofs.Receipt.{receipt_runs}
use Rattle.mesh_nhdp.proofs.hearing.hear.Goals as goal

pub renew_neighbour-requires-clause-some : goal.renew_neighbour-requires-clause-some
renew_neighbour-requires-clause-some g c =
    let (sender, told, fault) = c.requires.told in
    more_some c.args.receipt.now.telling.now.shown.sending c.args.receipt.now.telling.now.listed (sending_some c.args.receipt.now.telling.now.shown.sending (λ b. TellsLocal c.args.receipt.now.hello.now b This) sender told.sending.1)
    (λ a has. (told.listed.1 a).1 (inl ((told.sending.1 a).0 has)))

pub returns-clause-after : goal.returns-clause-after
returns-clause-after g c =
    let settings = c.args.settings.now in
    let receipt = c.args.receipt.now in
    let told = told_of receipt.telling.now in
    let (sender, tells, fault) = c.requires.told in
    let before_is = subst (λ (n : Neighbourhood). (a : Addr4) → Contains c.in_ok-theirs.before.items a ↔ IsSymmetricSpokenAddress n.neighbours told.originator told.listed a) c.sets.view_is c.in_ok-theirs.ensures.symmetric in
    let theirs_are = subst (λ (n : Neighbourhood). (a : Addr4) → Contains c.in_ok-theirs.theirs.items a ↔ IsSpokenAddress n.neighbours told.originator told.listed a) c.sets.view_is c.in_ok-theirs.ensures.all in
    receipt_runs settings receipt.moment receipt.iface sender told receipt.hello.now c.args.sets.now c.hear_links.new.sets c.renew_neighbour.new.sets c.in_ok-theirs.theirs.items c.deref.result.now receipt.own.now c.in_ok-theirs.before.items
    c.deref-2.result.now tells fault (subst (λ n. 0 < n) (sym tells.validity) c.requires.ready.lasts) c.requires.sound c.requires.ready.is_interface c.requires.own before_is theirs_are c.deref.ensures.value c.deref-2.ensures.value
    c.in_ok-repeats.ensures.hears c.in_ok-renew_neighbour.ensures

pub returns-clause-repeats : goal.returns-clause-repeats
returns-clause-repeats g c = rw c.in_ok-renew_neighbour.ensures.follows.rest c.in_ok-repeats.ensures.repeats
