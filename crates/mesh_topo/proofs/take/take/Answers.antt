use Rattle.mesh_topo.proofs.Common.{◌+◌, ◌||◌, refl, sym, Is_old, Overfull, Takes, TopologyBase, sets_of, or_parts as neither}
use Rattle.mesh_topo.proofs.Full.{room_in_all, few_after, put_few, router_rows, address_rows, network_rows}
use Rattle.mesh_topo.proofs.RowKinds.{router_set, address_set, network_set}
use Rattle.mesh_topo.proofs.take.take.Goals as goal

pub returns-in-Some : goal.returns-in-Some
returns-in-Some g c = record {
  ok = Is_old c.in-Some.kept c.in-Some.ensures.some;
  same = λ _. record { routers = λ q. refl; addresses = λ q. refl; networks = λ q. refl };
  within = λ few. few;
}

pub returns-in-Some-first_full : goal.returns-in-Some-first_full
returns-in-Some-first_full g c = record {
  ok = Overfull c.in-Some-first_full.base c.in_default.ensures.none (sym c.in-Some-first_full.ensures);
  same = λ _. record { routers = λ q. refl; addresses = λ q. refl; networks = λ q. refl };
  within = λ few. few;
}

pub returns-clause-ok : goal.returns-clause-ok
returns-clause-ok g c =
    let tc = c.args.tc.now in
    let until = c.args.now + tc.validity in
    Takes c.in_default.ensures.none (sym c.in_default-first_full.ensures) (record {
      distinct = c.in_ok-put.ensures.distinct;
      advertisers = c.in_ok-put.ensures.ok;
      routers = router_set tc until c.args.routers.now c.take_rows.new.self c.requires.hosts c.in_ok-changed.ensures.becomes;
      addresses = address_set tc until c.args.addresses.now c.take_rows-2.new.self c.requires.hosts c.in_ok-changed-2.ensures.becomes;
      networks = network_set tc until c.args.networks.now c.take_rows-3.new.self c.in_ok-changed-3.ensures.becomes;
    })

pub returns-clause-within : goal.returns-clause-within
returns-clause-within g c _ =
    let tc = c.args.tc.now in
    let before : TopologyBase = sets_of (g.A.Table.content c.args.advertisers.now) c.args.routers.now c.args.addresses.now c.args.networks.now in
    let (a, r, d, n) = room_in_all before tc (sym c.in_default-first_full.ensures) in
    record {
      advertisers = put_few _ _ _ a c.in_ok-put.ensures.count;
      routers = few_after _ _ _ _ r (router_rows tc.originator tc.ansn tc.rows) c.in_ok-changed.ensures.count;
      addresses = few_after _ _ _ _ d (address_rows tc.originator tc.ansn tc.rows) c.in_ok-changed-2.ensures.count;
      networks = few_after _ _ _ _ n (network_rows tc.originator tc.ansn tc.rows) c.in_ok-changed-3.ensures.count;
    }

pub returns-clause-same : goal.returns-clause-same
returns-clause-same g c e =
    let (first, third) = neither (c.in_ok-changed.changed || c.in_ok-changed-2.field-0) c.in_ok-changed-3.field-0 e in
    let (one, two) = neither c.in_ok-changed.changed c.in_ok-changed-2.field-0 first in
    record {
      routers = c.in_ok-changed.ensures.same one;
      addresses = c.in_ok-changed-2.ensures.same two;
      networks = c.in_ok-changed-3.ensures.same third;
    }
