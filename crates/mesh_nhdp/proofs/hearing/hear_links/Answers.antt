use Rattle.mesh_nhdp.proofs.Common.{on_ok_weaker, List, subst, Addr4, base_of, rule_of, told_of, RepeatsRows, if_ok_weaker as if_ok}
use Rattle.mesh_nhdp.proofs.Expiry.{face_rule}
use Rattle.mesh_nhdp.proofs.Receipt.{links_heard}
use Rattle.mesh_nhdp.proofs.hearing.hear_links.Goals as goal

pub returns-clause-hears : goal.returns-clause-hears
returns-clause-hears g c =
    on_ok_weaker c.hear_interfaces.result
    (λ H. links_heard c.index-as_slice-receipt.result.admit (rule_of c.args.settings.now c.args.receipt.now.iface) (told_of c.args.receipt.now.telling.now) c.args.theirs.now c.as_slice-listed.result.now c.args.receipt.now.own.now c.in_ok-keys.keys.items c.deref.result.now
    c.args.settings.now.times.link_hold c.args.receipt.now.moment c.args.receipt.now.iface c.args.receipt.now.hello.now c.args.sets.now c.hear_interfaces.new.sets
    (face_rule c.args.settings.now c.args.receipt.now.iface c.as_slice.result.now c.index-as_slice-receipt.result c.as_slice.ensures c.requires.iface c.index-as_slice-receipt.is) c.as_slice-listed.ensures c.deref.ensures.value
    c.in_ok-keys.ensures H) c.hear_interfaces.ensures.hears

pub returns-clause-repeats : goal.returns-clause-repeats
returns-clause-repeats g c =
    if_ok c.hear_interfaces.result (λ r same is symmetric.
    subst (λ (listed : List Addr4). RepeatsRows c.args.receipt.now.own.now listed (base_of c.args.sets.now.two_hops c.args.receipt.now.iface) c.args.receipt.now.telling.now.least c.args.receipt.now.hello.now) c.as_slice-listed.ensures (same is symmetric)) c.hear_interfaces.ensures.repeats
