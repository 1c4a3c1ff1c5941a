use Rattle.mesh_probe.proofs.Common.{◌≢◌, ◌≡◌, ℕ, ◌≤◌, length, arith, true, HearsOne}
use Rattle.mesh_probe.proofs.Hearers.{hears_inside}
use Rattle.mesh_probe.proofs.Listing.{all_listed, one_listed, one_passed}
use Rattle.mesh_probe.proofs.reached.reached_of.Goals as goal
use Rattle.mesh_probe.proofs.reached.reached_of.Goals.{then-is_reached+in_ok-push, else-is_reached}

pub loop-router-preserved : goal.loop-router-preserved
loop-router-preserved c =
    let P : ℕ → Type 0 = λ z. (z ≢ c.args.origin) × HearsOne c.args.scenario.now c.args.sends.now z in
    elim c.if-is_reached.branch [
      | then-is_reached+in_ok-push w ↦ rw (w.reached-is, w.in_ok-push.ensures.ok) (one_listed P c.loop-router.router c.loop-router.reached (c.is_reached.ensures.0 w.if-is_reached.true) c.loop-router.invariant)
      | else-is_reached w ↦
          rw w.reached-is
          (one_passed P c.loop-router.router c.loop-router.reached (λ h. (let t : c.is_reached.result ≡ true = c.is_reached.ensures.1 h in let f = w.if-is_reached.false in absurd cc)) c.loop-router.invariant)
    ]

pub returns : goal.returns
returns c =
    let s = c.args.scenario.now in
    let P : ℕ → Type 0 = λ z. (z ≢ c.args.origin) × HearsOne s c.args.sends.now z in
    let past : length s.routers ≤ c.loop-router.router = (let l = c.len-router-end.ensures in let f = c.loop-router-test.false in omega (arith, l, f)) in
    all_listed P c.loop-router.router c.loop-router.reached (λ z h. (let less = hears_inside s c.args.sends.now z h.1 in omega (arith, less, past))) c.loop-router.invariant
