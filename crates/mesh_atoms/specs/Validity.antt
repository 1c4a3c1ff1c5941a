-- For how long what a TC says is to be held, by the distance of who hears it (RFC 5497, section 6).
use Rattle.std.specs.Prelude.{ℕ, ◌≤◌, List, [], ◌∷◌}
use Rattle.mesh_atoms.specs.declared.settings.NearHold.{NearHold}
use Rattle.mesh_atoms.specs.Codes.Codes.{time_value, IsSentCode}

-- the least time code that is sent and no shorter
pub record IsLeastCode (ticks code : ℕ) : Type 0 where
  pub sent : IsSentCode code
  pub enough : ticks ≤ time_value code
  pub least : (other : ℕ) → IsSentCode other → ticks ≤ time_value other → code ≤ other

-- pairs of a time code and a number of hops, and a last time code, all of them codes that are sent
pub data IsTimeValue : List ℕ → Type 0 where
  Everywhere : {code : ℕ} → IsSentCode code → IsTimeValue (code ∷ [])
  Up_to : {code : ℕ} {value : List ℕ} (hops : ℕ) → IsSentCode code → IsTimeValue value → IsTimeValue (code ∷ hops ∷ value)

-- the value of VALIDITY_TIME: for each near hold, in order, the code of its time and its hops; then the code of the hold time
pub data IsValidity (hold : ℕ) : List NearHold → List ℕ → Type 0 where
  Far : {code : ℕ} → IsLeastCode hold code → IsValidity hold [] (code ∷ [])
  Near : {near : NearHold} {nears : List NearHold} {code : ℕ} {value : List ℕ} →
      IsLeastCode near.hold code → IsValidity hold nears value → IsValidity hold (near ∷ nears) (code ∷ near.hops ∷ value)
