use Rattle.mesh_io.proofs.Common.{◌≡◌, ℕ, ◌+◌, List, length, sym, ap, ◌∙◌, arith, length-append, append-nil, Handed, LogState}
use Rattle.mesh_io.proofs.Stores.{told_on, lying_at, grew_nothing, log_with, roomy_on}
use Rattle.mesh_io.proofs.air_log.AirLog.send.Goals as goal

pub invariant_of-self : goal.invariant_of-self
invariant_of-self c =
    let s = c.self.inside in
    let v = c.self.invariant in
    let frames_now : s.left.frames ≡ c.args.self.now.left.frames = ap (λ (l : LogState). l.left.frames) c.self.view_is in
    let octets_now : s.left.octets ≡ c.args.self.now.left.octets = ap (λ (l : LogState). l.left.octets) c.self.view_is in
    let size : length c.put_octets.new.store.items ≡ length s.octets.items + length c.args.bytes.now = ap length c.put_octets.ensures.items ∙ length-append s.octets.items c.args.bytes.now in
    roomy_on s.entries.items c.put_entry.new.entries.items _ _ _ _ _ _ _ _ _ _ _ _ _ s.left _ v c.put_entry.ensures.items c.put_entry.ensures.capacity (omega arith) (omega (arith, size))
    (omega (arith, size, c.len-from.ensures, s.octets.ok.0))
    (omega (arith, frames_now, c.requires.frames)) (omega (arith, v.peers_fit)) (omega (arith, size, octets_now, c.requires.octets, v.octets_fit, c.put_octets.ensures.capacity)) v.attached_fit

pub returns : goal.returns
returns c =
    let s = c.self.inside in
    rw (← c.self.view_is) (log_with _ _ _ _ _ _ (told_on s.told s.scripts s.peers.items s.peers.items s.octets.items c.put_octets.new.store.items s.entries.items c.put_entry.new.entries.items _ _ c.put_entry.ensures.items
    (grew_nothing s.peers.items (sym (append-nil s.peers.items))) (record { more = c.args.bytes.now; is = c.put_octets.ensures.items }) c.self.invariant.lie
    (ap (λ (l : List ℕ). Handed c.args.iface l c.args.answer) (lying_at s.octets.items c.put_octets.new.store.items c.args.bytes.now c.len-from.result c.put_octets.ensures.items (omega (arith, c.len-from.ensures, s.octets.ok.0))))))
