use Rattle.std.proofs.lemmas.Result.{on_err_weaker, on_ok_weaker}
use Rattle.mesh_run.proofs.TurnsLemmas.Positions.{hears_frame, hears_silence, hears_fault, hears_in_vain}
use Rattle.mesh_run.proofs.turns.listen.listen.Goals as goal

pub returns-in_ok-frame-in-Frame-clause-hears : goal.returns-in_ok-frame-in-Frame-clause-hears
returns-in_ok-frame-in-Frame-clause-hears g c = on_ok_weaker c.hear-in-Frame.result
    (hears_frame _ _ _ _ _ _ _ _ _ _ _ _ _ _ c.in_ok-frame-in-Frame.ensures c.in_ok-tally-in-Frame.ensures c.in-Frame.ensures.told) c.hear-in-Frame.ensures.acts

pub returns-in_ok-frame-in-Frame-clause-in_vain : goal.returns-in_ok-frame-in-Frame-clause-in_vain
returns-in_ok-frame-in-Frame-clause-in_vain g c = on_err_weaker c.hear-in-Frame.result (hears_in_vain _ _ _ _ _ _ c.in-Frame.ensures.told) c.hear-in-Frame.ensures.silent

pub returns-in-Silence-clause-hears : goal.returns-in-Silence-clause-hears
returns-in-Silence-clause-hears g c = hears_silence _ _ _ _ _ _ _ c.in-Silence.ensures.told

pub returns-in_ok-tally-in-Failed-clause-hears : goal.returns-in_ok-tally-in-Failed-clause-hears
returns-in_ok-tally-in-Failed-clause-hears g c = hears_fault _ _ _ _ _ _ _ _ c.in_ok-tally-in-Failed.ensures c.in-Failed.ensures.told
