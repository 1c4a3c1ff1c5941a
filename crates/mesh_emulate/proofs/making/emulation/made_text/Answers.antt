use Rattle.mesh_emulate.proofs.Common.{◌≡◌, IfOk-weaker, IsMadeText, MadeEmulation, WholeRun}
use Rattle.mesh_emulate.proofs.MakingLemmas.Telling.{emulated}
use Rattle.mesh_emulate.proofs.making.emulation.made_text.Goals as goal

pub returns : goal.returns
returns g c =
    let k = c.args.kind in
    let s = c.in_ok-scenario.scenario in
    IfOk-weaker c.text_of.result (λ text. (run : WholeRun s) × IsMadeText k s run text) (λ text. (m : MadeEmulation k c.args.routers c.args.seed) × (m.text ≡ text))
    (λ text. emulated k c.args.routers c.args.seed s c.in_ok-scenario.ensures text) c.text_of.ensures
