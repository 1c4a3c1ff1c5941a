use Rattle.mesh_probe.proofs.Common.{◌≢◌, ◌≡◌, ℕ, ◌≤◌, length, arith, true, Joined}
use Rattle.mesh_probe.proofs.Hearers.{joined_inside}
use Rattle.mesh_probe.proofs.Listing.{all_listed, one_listed, one_passed}
use Rattle.mesh_probe.proofs.lines.peers_of.Goals as goal
use Rattle.mesh_probe.proofs.lines.peers_of.Goals.{then-is_joined+in_ok-push, else-is_joined}

pub loop-router-preserved : goal.loop-router-preserved
loop-router-preserved c =
    let s = c.args.scenario.now in
    let P : ℕ → Type 0 = λ z. (z ≢ c.args.origin) × Joined s c.args.origin z in
    let joined = c.is_joined.ensures.joined s c.requires in
    elim c.if-is_joined.branch [
      | then-is_joined+in_ok-push w ↦ rw (w.peers-is, w.in_ok-push.ensures.items) (one_listed P c.loop-router.router c.loop-router.peers.items (joined.0 w.if-is_joined.true) c.loop-router.invariant)
      | else-is_joined w ↦
          rw w.peers-is
          (one_passed P c.loop-router.router c.loop-router.peers.items (λ h. (let t : c.is_joined.result ≡ true = joined.1 h in let f = w.if-is_joined.false in absurd cc)) c.loop-router.invariant)
    ]

pub returns : goal.returns
returns c =
    let s = c.args.scenario.now in
    let P : ℕ → Type 0 = λ z. (z ≢ c.args.origin) × Joined s c.args.origin z in
    let past : length s.routers ≤ c.loop-router.router = (let l = c.len-router-end.ensures in let f = c.loop-router-test.false in omega (arith, l, f)) in
    all_listed P c.loop-router.router c.loop-router.peers.items (λ z h. (let less = joined_inside s c.args.origin z h.0 h.1 in omega (arith, less, past))) c.loop-router.invariant
