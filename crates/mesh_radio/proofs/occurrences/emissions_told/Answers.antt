use Rattle.mesh_radio.proofs.Common.{◌∙◌, List, map, sym, ap, map-id, YieldsList-from_vec, YieldsList-end, SentFrame, emission_of}
use Rattle.mesh_radio.proofs.TrafficLemmas.Sending.{one_told}
use Rattle.mesh_radio.proofs.occurrences.emissions_told.Goals as goal

pub loop-one-preserved : goal.loop-one-preserved
loop-one-preserved c = one_told _ _ _ _ _ c.in_ok-emission_told.ensures c.in_ok-push.ensures.ok c.loop-one.invariant

pub returns : goal.returns
returns c =
    let gives = c.into_iter-one-iterator.ensures.into_iter_gives in
    let ended = (YieldsList-end (YieldsList-from_vec c.args.sent.items gives.0 (gives.1 ∙ c.args.sent.ok.0)) c.loop-one.yielded c.loop-one.one-iterator c.loop-one.yielded_by _ c.next.new.self c.in-None.is c.next.ensures.steps).0 in
    c.loop-one.invariant ∙ ap (λ (l : List SentFrame). map emission_of l) (sym (map-id c.loop-one.yielded) ∙ ended)
