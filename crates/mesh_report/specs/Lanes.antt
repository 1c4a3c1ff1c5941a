-- What the lanes of a vector hold.
use Rattle.std.specs.Prelude.{◌≡◌, ℕ, ◌<◌, List, length, slice_index}

-- v has n lanes, and lane k holds f k
pub record HasLanes (n : ℕ) (v : List ℕ) (f : ℕ → ℕ) : Type 0 where
  pub len : length v ≡ n
  pub each : (k : ℕ) → k < n → slice_index v k ≡ f k
