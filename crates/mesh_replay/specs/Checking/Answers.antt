-- What is answered to a trace.
use Rattle.std.specs.Prelude.{◌≡◌, ℕ, List, length}
use Rattle.mesh_atoms.specs.declared.settings.Scenario.{Scenario}
use Rattle.mesh_trace.specs.Positions.Leading.{IsWholeTrace, IsUnfit}
use Rattle.mesh_replay.specs.declared.answer.Replay.{Replay}
use Rattle.mesh_replay.specs.declared.answer.Replay.TheVariants.{Yes, No}

-- yes where it is whole, with the number of its lines; no with the number of the first line that doesn't fit those before it, or of the
-- line behind the last. No trace has both (mesh_trace, UnfitIsNotWhole), so each comes exactly where it says
abbrev pub ReplayAnswers : Scenario → List (List ℕ) → Replay → Type 0
ReplayAnswers s lines (Yes count) = IsWholeTrace s lines × (count ≡ length lines)
ReplayAnswers s lines (No line) = IsUnfit s lines line
