use Rattle.mesh_run.proofs.Common.{[], ◌∷◌, ◌<◌, length, take, get_or, arith, take_more, no_frame}
use Rattle.mesh_run.proofs.TurnsLemmas.Tellings.{hands_more}
use Rattle.mesh_run.proofs.turns.hand.hand_over.Goals as goal

pub loop-i-preserved : goal.loop-i-preserved
loop-i-preserved g c =
    let i = c.loop-i.invariant in
    let h = c.hand_at.ensures in
    let out = c.args.out.now in
    let lt : c.loop-i.i < length out = omega (arith, c.loop-i-test.true, c.len-i-end.ensures) in
    record {
      hands = rw (take_more out c.loop-i.i no_frame lt) (hands_more (take c.loop-i.i out) (get_or out c.loop-i.i no_frame ∷ [])
          (g.A.Air.reports c.args.air.now) (g.A.Air.reports c.loop-i.air) (g.A.Air.reports c.hand_at.new.air) c.args.tally.now c.loop-i.tally c.hand_at.new.tally i.hands h.hands);
      attached = cc;
      later = omega (arith, i.later, h.later);
      sent = omega (arith, i.sent, h.sent);
      faults = omega (arith, i.faults, h.faults);
    }
