-- The validity that a value of times tells, at each distance.
use Rattle.mesh_wire.proofs.Common.{common_steps, ◌≡◌, ℕ, ◌%◌, ◌<◌, List, [], ◌∷◌, length, refl, arith, Bool, cond, time_value, IsSentCode, time_at_distance, IsTimeValue, Everywhere, Up_to, time-less, MessageFields, VALIDITY_TIME, values_of, ValidityIs}

pub code_above : (code : ℕ) → IsSentCode code → 0 < time_value code
code_above code sent = let less : time_value 0 < time_value code = time-less 0 code (omega (arith, sent.0)) in omega (arith, less)

pub odd : (value : List ℕ) → IsTimeValue value → length value % 2 ≡ 1
odd value (Everywhere {code} sent) = refl
odd value (Up_to {code} {value = rest} hops sent times) = omega (arith, odd rest times)

either : (b : Bool) (x y : ℕ) → 0 < x → 0 < y → 0 < cond b x y
either b x y p q = grind (arith, common_steps)

pub above : (distance : ℕ) (value : List ℕ) → IsTimeValue value → 0 < time_at_distance distance value
above distance value (Everywhere {code} sent) = code_above code sent
above distance value (Up_to {code} {value = rest} hops sent times) = grind (arith, common_steps, either, code_above, (above distance rest times))

-- whatever the distance, the time that the value has there is a validity
pub further : (m : MessageFields) (value : List ℕ) → IsTimeValue value → values_of VALIDITY_TIME m ≡ value ∷ [] → (distance : ℕ) → ValidityIs m distance (time_at_distance distance value)
further m value times told distance = ((value, told, odd value times, refl), above distance value times)
