use Rattle.mesh_replay.proofs.Common.{ℕ, ◌+◌, List, sym, ◌∙◌, ap, refl, true≢false, drop_all, Traffic, with_delivery, on_lost, on_carried, all_spread}
use Rattle.mesh_replay.proofs.traffic.traffic.TraceTraffic.spread.Goals as goal
use Rattle.mesh_replay.proofs.traffic.traffic.TraceTraffic.spread.Goals.{then-loses+in_ok-push, else-loses+in_ok-share+in_ok-put}

pub loop-number-preserved : goal.loop-number-preserved
loop-number-preserved c =
    let was = c.loop-number.self-inside in
    let here : Traffic = record { air = was.air; counts = was.counts; draws = was.draws.drawn } in
    let is = c.if-loses.self-inside in
    let there : Traffic = record { air = is.air; counts = is.counts; draws = is.draws.drawn } in
    elim c.if-loses.branch [
      | then-loses+in_ok-push w ↦
          record {
            goes = rw (w.lost-is, w.in_ok-push.ensures.ok) (on_lost c.args.scenario.now _ _ _ _ _ _ here c.loop-number-item.result c.loop-number-test.true c.loop-number-item.is (c.loses.ensures.lost.0 w.if-loses.true) there (rw (w.self-inside-is, c.loses.ensures.drawn) refl) c.loop-number.invariant.goes);
            seeded = rw (w.self-inside-is, c.loses.ensures.drawn) c.loop-number.invariant.seeded;
          }
      | else-loses+in_ok-share+in_ok-put w ↦
          record {
            goes = rw w.lost-is (on_carried c.args.scenario.now _ _ _ _ _ _ here c.loop-number-item.result c.loop-number-test.true c.loop-number-item.is (λ is. true≢false (sym (c.loses.ensures.lost.1 is) ∙ w.if-loses.false)) there (rw (w.self-inside-is, c.loses.ensures.drawn, w.in_ok-put.ensures) (ap (λ (f : List ℕ). with_delivery here (record { moment = c.args.now + c.loop-number-item.result.1.delay; arc = c.loop-number-item.result.0; frame = f })) w.in_ok-share.ensures.cases)) c.loop-number.invariant.goes);
            seeded = rw (w.self-inside-is, c.loses.ensures.drawn) c.loop-number.invariant.seeded;
          }
    ]

pub returns-clause-spreads : goal.returns-clause-spreads
returns-clause-spreads c = all_spread _ _ _ _ _ _ _ _ (drop_all _ _ c.loop-number-test.false) c.loop-number.invariant.goes
