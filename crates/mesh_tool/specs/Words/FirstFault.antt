-- The first word at fault.
use Rattle.std.specs.Prelude.{◌≡◌, ℕ, ◌+◌, ◌<◌, ◌⊎◌, ◌↔◌, List, ◌++◌, length, take, Err, IsOk}
use Rattle.mesh_tool.specs.Words.Words.{words_of}

-- words that ask for a job
abbrev pub IsCommandLine : List (List ℕ) → Type 0
IsCommandLine words = IsOk (words_of words)

-- words with which a command line begins
abbrev pub BeginACommandLine : List (List ℕ) → Type 0
BeginACommandLine words = (more : List (List ℕ)) × IsCommandLine (words ++ more)

-- all words before this place begin a command line; with the word there none begins, or no word is there and one is missing
pub record IsFirstAtFault (words : List (List ℕ)) (place : ℕ) : Type 0 where
  pub before : BeginACommandLine (take place words)
  pub fault :
      ((place < length words) × (BeginACommandLine (take (place + 1) words) → ⊥)) ⊎ ((place ≡ length words) × (IsCommandLine words → ⊥))

-- words are refused exactly at the first word at fault
abbrev pub FaultsAreFirst : Type 0
FaultsAreFirst = (words : List (List ℕ)) (place : ℕ) → (words_of words ≡ Err place) ↔ IsFirstAtFault words place
