-- Each flag and the width are told from the sum that is written, by trying all sums.
use Rattle.mesh_packet.proofs.Common.{common_steps, ◌≡◌, ℕ, zero, suc, ◌+◌, ◌%◌, ◌<◌, ◌≤◌, Bool, true, ◌&&◌, eqb, refl, arith, and_parts, eqb-true, has, flag}
use Rattle.mesh_tlv.proofs.Trying.{both, both_is, same, same_is}

-- of all numbers below
abbrev below : ℕ → (ℕ → Bool) → Bool
below zero f = true
below (suc n) f = f n && below n f

at_last : (n : ℕ) (f : ℕ → Bool) (i : ℕ) → i < suc n → f n ≡ true → (i < n → f i ≡ true) → (b : Bool) → eqb i n ≡ b → f i ≡ true
at_last n f i lt last before b e = grind (arith, common_steps)

below_is : (n : ℕ) (f : ℕ → Bool) → below n f ≡ true → (i : ℕ) → i < n → f i ≡ true
below_is zero f h i lt = absurd (omega (arith, lt))
below_is (suc n) f h i lt = at_last n f i lt (and_parts (f n) (below n f) h).0 (λ k. below_is n f (and_parts (f n) (below n f) h).1 i k) (eqb i n) refl

-- ---- the flags of a message

abbrev flags_of : Bool → Bool → Bool → Bool → ℕ → ℕ
flags_of a b c d n = flag a 128 + flag b 64 + flag c 32 + flag d 16 + n

abbrev tried : (Bool → Bool → Bool → Bool → ℕ → Bool) → Bool
tried t = both (λ a. both (λ b. both (λ c. both (λ d. below 16 (λ n. t a b c d n)))))

tried_is : (t : Bool → Bool → Bool → Bool → ℕ → Bool) → tried t ≡ true → (a b c d : Bool) (n : ℕ) → n < 16 → t a b c d n ≡ true
tried_is t h a b c d n lt =
    below_is 16 (λ n. t a b c d n) (both_is (λ d. below 16 (λ n. t a b c d n)) (both_is (λ c. both (λ d. below 16 (λ n. t a b c d n))) (both_is (λ b. both (λ c. both (λ d. below 16 (λ n. t a b c d n)))) (both_is (λ a. both (λ b. both (λ c. both (λ d. below 16 (λ n. t a b c d n))))) h a) b) c) d) n lt

pub tells_128 : (a b c d : Bool) (n : ℕ) → n < 16 → has (flags_of a b c d n) 128 ≡ a
tells_128 a b c d n lt = same_is _ _ (tried_is (λ a b c d n. same (has (flags_of a b c d n) 128) a) refl a b c d n lt)

pub tells_64 : (a b c d : Bool) (n : ℕ) → n < 16 → has (flags_of a b c d n) 64 ≡ b
tells_64 a b c d n lt = same_is _ _ (tried_is (λ a b c d n. same (has (flags_of a b c d n) 64) b) refl a b c d n lt)

pub tells_32 : (a b c d : Bool) (n : ℕ) → n < 16 → has (flags_of a b c d n) 32 ≡ c
tells_32 a b c d n lt = same_is _ _ (tried_is (λ a b c d n. same (has (flags_of a b c d n) 32) c) refl a b c d n lt)

pub tells_16 : (a b c d : Bool) (n : ℕ) → n < 16 → has (flags_of a b c d n) 16 ≡ d
tells_16 a b c d n lt = same_is _ _ (tried_is (λ a b c d n. same (has (flags_of a b c d n) 16) d) refl a b c d n lt)

pub tells_width : (a b c d : Bool) (n : ℕ) → n < 16 → flags_of a b c d n % 16 ≡ n
tells_width a b c d n lt = eqb-true _ _ (tried_is (λ a b c d n. eqb (flags_of a b c d n % 16) n) refl a b c d n lt)

-- ---- the flags of a packet

pub tells_8 : (a b : Bool) → has (flag a 8 + flag b 4) 8 ≡ a
tells_8 a b = same_is _ _ (both_is (λ b. same (has (flag a 8 + flag b 4) 8) a) (both_is (λ a. both (λ b. same (has (flag a 8 + flag b 4) 8) a)) refl a) b)

pub tells_4 : (a b : Bool) → has (flag a 8 + flag b 4) 4 ≡ b
tells_4 a b = same_is _ _ (both_is (λ b. same (has (flag a 8 + flag b 4) 4) b) (both_is (λ a. both (λ b. same (has (flag a 8 + flag b 4) 4) b)) refl a) b)

flag_most : (a : Bool) (n : ℕ) → flag a n ≤ n
flag_most a n = grind (arith, common_steps)

pub version_none : (a b : Bool) → flag a 8 + flag b 4 < 16
version_none a b = omega (arith, flag_most a 8, flag_most b 4)
