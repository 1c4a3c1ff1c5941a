-- The words that the draws of an emulated network are.
use Rattle.std.specs.Prelude.{ℕ, ◌++◌, List, replicate}
use Rattle.std.specs.Int.{w64, to_le_bytes}
use Rattle.rand_chacha.specs.ChaCha.{word_at, key_of}

-- the key that a seed gives: the seed in 8 octets, the least first, and 24 zeros
abbrev pub key_by : ℕ → List ℕ
key_by seed = key_of (to_le_bytes w64 seed ++ replicate 24 0)

-- word k of a stream of the ChaCha20 generator with that key
abbrev pub word_of : ℕ → ℕ → ℕ → ℕ
word_of seed stream k = word_at 10 (key_by seed) stream k

-- a seed's stream, of which so many words were drawn
pub record Drawing : Type 0 where
  pub seed : ℕ
  pub drawn : ℕ
