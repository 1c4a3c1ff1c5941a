use Rattle.mesh_dump.proofs.Common.{arith, common_steps, ◌≡◌, ℕ, ◌⊎◌, List, Err, decode_of, FromHexError, InvalidHexCharacter, OddLength, InvalidStringLength, OutOfMemory}
use Rattle.mesh_dump.proofs.Hex.{other_digit, odd_text, never_length}
use Rattle.mesh_dump.proofs.lines.fault_of.Goals as goal

-- a fault that isn't an allocation failure is that of decoding
decoded : (text : List ℕ) (e f : FromHexError) → (e ≡ OutOfMemory) ⊎ (decode_of text ≡ Err e) → e ≡ f → (f ≡ OutOfMemory → ⊥) → decode_of text ≡ Err f
decoded text e f h3 is apart = grind (arith, common_steps)

odd_or_full : OddLength ≡ OutOfMemory → ⊥
odd_or_full e = absurd cc

digit_or_full : (octet place : ℕ) → InvalidHexCharacter octet place ≡ OutOfMemory → ⊥
digit_or_full octet place e = absurd cc

length_or_full : InvalidStringLength ≡ OutOfMemory → ⊥
length_or_full e = absurd cc

pub unreachable-requires : goal.unreachable-requires
unreachable-requires c = never_length c.args.text.now (decoded c.args.text.now c.args.fault InvalidStringLength c.requires c.in-InvalidStringLength.is length_or_full)

pub returns-in-InvalidHexCharacter : goal.returns-in-InvalidHexCharacter
returns-in-InvalidHexCharacter c = grind (arith, common_steps, decoded, digit_or_full, other_digit, c.requires, c.in-InvalidHexCharacter.is, c.refuse.ensures)

pub returns-in-OddLength : goal.returns-in-OddLength
returns-in-OddLength c = grind (arith, common_steps, decoded, odd_or_full, odd_text, c.requires, c.in-OddLength.is, c.refuse-in-OddLength.ensures)
