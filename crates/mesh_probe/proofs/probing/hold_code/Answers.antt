use Rattle.mesh_probe.proofs.Common.{◌<◌, refl, arith, IsSentCode, time_value}
use Rattle.mesh_probe.proofs.probing.hold_code.Goals as goal

pub returns-in-None : goal.returns-in-None
returns-in-None c =
    let last : IsSentCode 254 = (omega arith, omega arith) in
    let below : time_value 254 < c.args.ticks = c.in-None.ensures.none.0 refl 254 last in
    absurd (omega arith)
