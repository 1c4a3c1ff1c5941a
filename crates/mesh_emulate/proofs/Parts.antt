-- A run from its parts, before its first event and at its end.
use Rattle.mesh_emulate.proofs.Common.{arith, common_steps, ◌≡◌, Bool, List, [], ℕ, Some, refl, Scenario, NetState, IsOpeningNet, IsOver, WholeRun, RunWithPieces, EventsMake, EndMakes, WholeRunMakes}
use Rattle.mesh_emulate.specs.declared.wanted.Errand.{Errand}
use Rattle.mesh_emulate.proofs.Putting.{both_made}

-- a run from the opening that is over
abbrev pub whole_run : (s : Scenario) (trace : Bool) (opening final : NetState) (pieces : List (List ℕ)) → IsOpeningNet s opening →
    RunWithPieces trace opening final pieces → IsOver final → WholeRun s
whole_run s trace opening final pieces opens told over =
    record { opening = opening; events = told.events; final = final; is_opening = opens; runs = told.runs; over = over }

-- a run that is told whole is over
pub run_over : (s : Scenario) (e : Errand) (opening final : NetState) (pieces : List (List ℕ)) → IsOpeningNet s opening →
    WholeRunMakes s e opening final pieces (Some tt) → (run : WholeRun s) × (run.final ≡ final)
run_over s e opening final pieces opens made =
    let (events, end, (told, over), is_end, whole) = both_made (EventsMake e.trace opening final) (EndMakes s e.send final) pieces made in
    (whole_run s e.trace opening final events opens told over, refl)

-- before the first event
pub told_untold : (trace : Bool) (net : NetState) → RunWithPieces trace net net []
told_untold trace net = grind (arith, common_steps)
