use Rattle.mesh_io.proofs.Common.{◌≡◌, ap, arith, LogState}
use Rattle.mesh_io.proofs.Stores.{roomy_on}
use Rattle.mesh_io.proofs.air_log.AirLog.fail.Goals as goal

pub invariant_of-self : goal.invariant_of-self
invariant_of-self c =
    let s = c.self.inside in
    let v = c.self.invariant in
    let ears_now : s.left.ears ≡ c.args.self.now.left.ears = ap (λ (l : LogState). l.left.ears) c.self.view_is in
    roomy_on s.entries.items c.put_entry.new.entries.items _ _ _ _ _ _ _ _ _ _ _ _ _ s.left _ v c.put_entry.ensures.items c.put_entry.ensures.capacity (omega arith) (omega arith) tt
    (omega (arith, ears_now, c.requires)) (omega (arith, v.peers_fit)) (omega (arith, v.octets_fit)) v.attached_fit
