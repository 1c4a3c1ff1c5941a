-- The octets that a command works on.
use Rattle.mesh_tool.proofs.Common.{common_steps, ◌≡◌, ℕ, ◌+◌, ◌<◌, ◌≤◌, List, [], length, Option, Some, None, sym, subst, arith, Consumes, IsAtEnd, SourceUse, ReadsNothing, IsInput, IsInputTooLong, IsWorkedOn}

-- ---- by the most octets of its input

pub works_whole : (reads : Option ℕ) {most : ℕ} {input : SourceUse} {octets : List ℕ} → reads ≡ Some most → IsInput most input octets → IsWorkedOn reads input octets
works_whole reads {most} {input} {octets} is whole = subst (λ (r : Option ℕ). IsWorkedOn r input octets) (sym is) whole

pub works_on_none : (reads : Option ℕ) {input : SourceUse} {octets : List ℕ} → reads ≡ None → octets ≡ [] → ReadsNothing input → IsWorkedOn reads input octets
works_on_none reads {input} {octets} is empty nothing = subst (λ (r : Option ℕ). IsWorkedOn r input octets) (sym is) (empty, nothing)

whole_works : (reads : Option ℕ) (most : ℕ) (input : SourceUse) (octets : List ℕ) → reads ≡ Some most → IsWorkedOn reads input octets → IsInput most input octets
whole_works reads most input octets is works = subst (λ (r : Option ℕ). IsWorkedOn r input octets) is works

-- no octet more than the most was taken
pub works_within : (reads : Option ℕ) (most : ℕ) (input : SourceUse) (octets : List ℕ) → reads ≡ Some most → IsWorkedOn reads input octets → input.taken' ≡ input.taken + (most + 1) → ⊥
works_within reads most input octets is works long = grind (arith, common_steps, whole_works)

-- ---- an input that the source tells

whole_taken : (left left' : Option (List ℕ)) (all octets : List ℕ) → left ≡ Some all → Consumes left left' octets → IsAtEnd left' → octets ≡ all
whole_taken left left' all octets is took end = grind (arith, common_steps)

part_taken : (left left' : Option (List ℕ)) (all octets : List ℕ) → left ≡ Some all → Consumes left left' octets → length octets ≤ length all
part_taken left left' all octets is took = grind (arith, common_steps)

pub whole_input : {most : ℕ} {input : SourceUse} {octets : List ℕ} (all : List ℕ) → input.left ≡ Some all → IsInput most input octets → octets ≡ all
whole_input {most} {input} {octets} all is whole = whole_taken input.left input.left' all octets is whole.read whole.whole

-- one that has more octets than the most is not worked on
pub works_short : (reads : Option ℕ) (most : ℕ) (input : SourceUse) (octets all : List ℕ) → reads ≡ Some most → IsWorkedOn reads input octets → input.left ≡ Some all → most < length all → ⊥
works_short reads most input octets all reading works is long = grind (arith, common_steps, whole_works, whole_input)

-- one that has no more isn't too long
pub long_not_taken : (most : ℕ) (input : SourceUse) (all : List ℕ) → input.left ≡ Some all → length all ≤ most → IsInputTooLong most input → ⊥
long_not_taken most input all is few long = omega (arith, part_taken input.left input.left' all long.octets is long.read, long.long)
