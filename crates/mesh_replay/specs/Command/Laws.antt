-- Laws of inputs of `replay`.
use Rattle.std.specs.Prelude.{◌≡◌, ℕ, List}
use Rattle.mesh_replay.specs.declared.answer.Replay.{Replay}
use Rattle.mesh_replay.specs.Command.Parts.{IsSplit, HasNoRule}
use Rattle.mesh_replay.specs.Command.Replays.{Replays, IsRefusedInput}

-- an input is split in one way at most
abbrev pub SplitsOnce : Type 0
SplitsOnce = (input scenario trace scenario' trace' : List ℕ) → IsSplit input scenario trace → IsSplit input scenario' trace' →
    (scenario ≡ scenario') × (trace ≡ trace')

-- and in none where no line is `---`
abbrev pub SplitsAtRule : Type 0
SplitsAtRule = (input scenario trace : List ℕ) → IsSplit input scenario trace → HasNoRule input → ⊥

-- no input is both answered and refused
abbrev pub AnswersOrRefuses : Type 0
AnswersOrRefuses =
    (input : List ℕ) (answer : Replay) (number : ℕ) (key : List ℕ) → Replays input answer → IsRefusedInput input number key → ⊥
