use Rattle.mesh_io.proofs.Common.{◌≡◌, ◌+◌, List, length, sym, ap, ◌∙◌, arith, length-append, append-nil, Endpoint, Attached_to, LogState}
use Rattle.mesh_io.proofs.Stores.{told_on, lying_at, grew_nothing, log_with, roomy_on}
use Rattle.mesh_io.proofs.air_log.AirLog.attach.Goals as goal

pub invariant_of-self : goal.invariant_of-self
invariant_of-self c =
    let s = c.self.inside in
    let v = c.self.invariant in
    let attaches_now : s.left.attaches ≡ c.args.self.now.left.attaches = ap (λ (l : LogState). l.left.attaches) c.self.view_is in
    let peers_now : s.left.peers ≡ c.args.self.now.left.peers = ap (λ (l : LogState). l.left.peers) c.self.view_is in
    let size : length c.put_peers.new.store.items ≡ length s.peers.items + length c.args.peers.now = ap length c.put_peers.ensures.items ∙ length-append s.peers.items c.args.peers.now in
    roomy_on s.entries.items c.put_entry.new.entries.items _ _ _ _ _ _ _ _ _ _ _ _ _ s.left _ v c.put_entry.ensures.items c.put_entry.ensures.capacity (omega (arith, size)) (omega arith)
    (omega (arith, size, c.len-from.ensures, s.peers.ok.0))
    (omega (arith, attaches_now, c.requires.attaches)) (omega (arith, size, peers_now, c.requires.peers, v.peers_fit, c.put_peers.ensures.capacity)) (omega (arith, v.octets_fit)) (omega (arith, attaches_now, c.requires.attaches, v.attached_fit))

pub returns : goal.returns
returns c =
    let s = c.self.inside in
    rw (← c.self.view_is) (log_with _ _ _ _ _ _ (told_on s.told s.scripts s.peers.items c.put_peers.new.store.items s.octets.items s.octets.items s.entries.items c.put_entry.new.entries.items _ _ c.put_entry.ensures.items
    (record { more = c.args.peers.now; is = c.put_peers.ensures.items }) (grew_nothing s.octets.items (sym (append-nil s.octets.items))) c.self.invariant.lie
    (ap (λ (l : List Endpoint). Attached_to c.args.local l) (lying_at s.peers.items c.put_peers.new.store.items c.args.peers.now c.len-from.result c.put_peers.ensures.items (omega (arith, c.len-from.ensures, s.peers.ok.0))))))
