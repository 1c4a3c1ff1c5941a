use Rattle.mesh_data.proofs.Common.{refl, []}
use Rattle.mesh_data.proofs.Deciding.{hop_by, no_arc}
use Rattle.mesh_data.proofs.decisions.move_by.Goals as goal

pub returns-in-Some : goal.returns-in-Some
returns-in-Some c =
    let found = c.in-Some.ensures.some in (
      refl,
      refl,
      c.value.ensures.bounded,
      (c.in-Some.arc.metric, hop_by c.args.scenario.now [] (record { 0 = 0 }) c.args.x c.args.row.now c.as_slice.result.now c.in-Some.arc c.as_slice.ensures found.0 found.1, c.value.ensures.value),
    )

pub returns-in-None : goal.returns-in-None
returns-in-None c = (refl, refl, no_arc c.args.scenario.now [] (record { 0 = 0 }) c.args.x c.args.row.now c.as_slice.result.now c.as_slice.ensures c.in-None.ensures.none)
