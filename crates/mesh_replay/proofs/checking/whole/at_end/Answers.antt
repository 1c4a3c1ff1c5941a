use Rattle.mesh_replay.proofs.Common.{◌≢◌, ◌∙◌, length, arith, refl, sym, false≢true}
use Rattle.mesh_replay.proofs.SceneLemmas.Answering.{whole_if_done, longer_if_not}
use Rattle.mesh_replay.proofs.checking.whole.at_end.Goals as goal

pub returns-then-is_done : goal.returns-then-is_done
returns-then-is_done c =
    let reader = c.args.progress.now.reader in
    let (net, read, over) = c.requires.over in
    whole_if_done c.args.case.now reader net read over reader.taken (c.is_done.ensures.0 c.if-is_done.true) refl

pub returns-else-is_done : goal.returns-else-is_done
returns-else-is_done c =
    let reader = c.args.progress.now.reader in
    let (net, read, over) = c.requires.over in
    let within = c.requires.reading.within in
    let other : length c.args.case.now.trace.now ≢ reader.at = λ e. false≢true (sym c.if-is_done.false ∙ c.is_done.ensures.1 e) in
    longer_if_not c.args.case.now reader net read over (omega (arith, within, other))
