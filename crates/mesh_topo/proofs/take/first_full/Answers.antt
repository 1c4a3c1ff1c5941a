use Rattle.mesh_topo.proofs.Common.{refl}
use Rattle.mesh_topo.proofs.Full.{third_full, fourth_full, none_full, tested, routers_tested, addresses_tested, networks_tested}
use Rattle.mesh_topo.proofs.take.first_full.Goals as goal

pub returns-then-is_overfull-3 : goal.returns-then-is_overfull-3
returns-then-is_overfull-3 g c =
    third_full _ c.args.tc.now (tested _ _ _ _ _ c.if-is_overfull.ensures c.len.ensures.value refl) (routers_tested c.args.tc.now _ _ _ _ c.if-is_overfull-2.ensures c.len-2.ensures c.count_given.ensures.value)
    (addresses_tested c.args.tc.now _ _ _ _ c.if-is_overfull-3.ensures c.len-3.ensures c.count_given-2.ensures.value)

pub returns-then-is_overfull-4 : goal.returns-then-is_overfull-4
returns-then-is_overfull-4 g c =
    fourth_full _ c.args.tc.now (tested _ _ _ _ _ c.if-is_overfull.ensures c.len.ensures.value refl) (routers_tested c.args.tc.now _ _ _ _ c.if-is_overfull-2.ensures c.len-2.ensures c.count_given.ensures.value)
    (addresses_tested c.args.tc.now _ _ _ _ c.if-is_overfull-3.ensures c.len-3.ensures c.count_given-2.ensures.value) (networks_tested c.args.tc.now _ _ _ _ c.if-is_overfull-4.ensures c.len-4.ensures c.count_given-3.ensures.value)

pub returns : goal.returns
returns g c =
    none_full _ c.args.tc.now (tested _ _ _ _ _ c.if-is_overfull.ensures c.len.ensures.value refl) (routers_tested c.args.tc.now _ _ _ _ c.if-is_overfull-2.ensures c.len-2.ensures c.count_given.ensures.value)
    (addresses_tested c.args.tc.now _ _ _ _ c.if-is_overfull-3.ensures c.len-3.ensures c.count_given-2.ensures.value) (networks_tested c.args.tc.now _ _ _ _ c.if-is_overfull-4.ensures c.len-4.ensures c.count_given-3.ensures.value)
