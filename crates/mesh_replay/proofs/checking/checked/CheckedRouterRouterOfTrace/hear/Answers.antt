use Rattle.mesh_replay.proofs.Common.{List, ap, false, refl, ◌∙◌, ◌++◌, Frame, EventLines}
use Rattle.mesh_replay.proofs.RouterLemmas.Following.{begun, hearing_begins, hears_so}
use Rattle.mesh_replay.proofs.checking.checked.CheckedRouterRouterOfTrace.hear.Goals as goal

pub returns-clause-hears : goal.returns-clause-hears
returns-clause-hears g c =
    let (given, sent, kept, out, takes) = c.in_ok-quiet.ensures.taken in
    let lines : EventLines = record { before = c.in_ok-before.before; hellos = false; parts = c.new.result; sequence = c.begin.new.derived.sequence; out = c.take_frame.new.out } in
    hears_so (record { rest = c.requires.kept; settings = c.in_ok-quiet.ensures.settings; sound = c.in_ok-quiet.ensures.sound; quiet_is = c.in_ok-quiet.ensures.near })
    (begun c.take_frame.new.self c.settings-settings.ensures c.nhdp-near.ensures.near c.in_ok-before.ensures) takes lines refl c.new.ensures (out ∙ ap (λ (l : List Frame). l ++ sent) c.new-out.ensures)

pub returns-clause-begins : goal.returns-clause-begins
returns-clause-begins g c =
    let (given, sent, kept, out, takes) = c.in_ok-quiet.ensures.taken in
    let lines : EventLines = record { before = c.in_ok-before.before; hellos = false; parts = c.new.result; sequence = c.begin.new.derived.sequence; out = c.take_frame.new.out } in
    hearing_begins (record { rest = c.requires.kept; settings = c.in_ok-quiet.ensures.settings; sound = c.in_ok-quiet.ensures.sound; quiet_is = c.in_ok-quiet.ensures.near })
    (begun c.take_frame.new.self c.settings-settings.ensures c.nhdp-near.ensures.near c.in_ok-before.ensures) takes lines refl c.new.ensures (out ∙ ap (λ (l : List Frame). l ++ sent) c.new-out.ensures) refl
