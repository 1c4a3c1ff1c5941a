-- Reading a frame from front to end: a reader gives a value and the place after it, or the first fault.
use Rattle.std.specs.Prelude.{◌≡◌, ℕ, ◌+◌, ◌-◌, ◌*◌, List, slice_index, slice_range, Result, Ok, Err, Bool, not, nat_lt, ◌==◌, if◌then◌else◌, bit_and}
use Rattle.mesh_atoms.specs.declared.refusal.DecodeFault.{DecodeFault}
use Rattle.mesh_atoms.specs.declared.refusal.DecodeFault.TheVariants as faults
use Rattle.mesh_atoms.specs.declared.refusal.Refusal.{Refusal}

-- what a reader gives: a value, and the place after it
abbrev pub Reading : Type 0 → Type 0
Reading A = Result (A × ℕ) Refusal

-- one after the other, up to the first fault
infixl 10 ◌>>=◌
abbrev pub ◌>>=◌ : {A B : Type 0} → Result A Refusal → (A → Result B Refusal) → Result B Refusal
(Ok x) >>= f = f x
(Err e) >>= f = Err e

-- the fault at a place
abbrev pub refuse : {A : Type 0} → ℕ → ℕ → Result A Refusal
refuse place reason = Err (record { place = place; reason = reason })

-- what a reader without an allocation failure gives, where `view` says what its value shows
abbrev pub Reads : {X Y : Type 0} → (X → Y) → Result X Refusal → Result Y Refusal → Type 0
Reads view (Ok x) read = read ≡ Ok (view x)
Reads view (Err e) read = read ≡ Err e

-- whether a flag is set
abbrev pub has : ℕ → ℕ → Bool
has octet flag = not (bit_and octet flag == 0)

-- an octet before `end`, else the reason
abbrev pub octet_at : ℕ → List ℕ → ℕ → ℕ → Reading ℕ
octet_at reason frame at end = if nat_lt at end then Ok (slice_index frame at, at + 1) else refuse at reason

-- a number of 16 bits, the high octet first
abbrev pub short_at : ℕ → List ℕ → ℕ → ℕ → Reading ℕ
short_at reason frame at end =
    if nat_lt (at + 1) end then Ok (256 * slice_index frame at + slice_index frame (at + 1), at + 2) else refuse at reason

-- so many octets before `end`, else the reason
abbrev pub piece_at : ℕ → List ℕ → ℕ → ℕ → ℕ → Reading (List ℕ)
piece_at reason frame at end len = if nat_lt (end - at) len then refuse at reason else Ok (slice_range frame at (at + len), at + len)

-- ---- what a call gives that may want memory, which may come in place of any answer

-- a fault is the same refusal
abbrev pub Fails : {Y : Type 0} → DecodeFault → Result Y Refusal → Type 0
Fails (faults.Memory e) read = Unit {0}
Fails (faults.Refused f) read = read ≡ Err f

-- a result gives what is read, where `view` says what its value shows
abbrev pub Gives : {X Y : Type 0} → (X → Y) → Result X DecodeFault → Result Y Refusal → Type 0
Gives view (Ok x) read = read ≡ Ok (view x)
Gives view (Err e) read = Fails e read

-- a fact of the refusal, where the fault is one
abbrev pub IfRefused : (Refusal → Type 0) → DecodeFault → Type 0
IfRefused P (faults.Memory e) = Unit {0}
IfRefused P (faults.Refused f) = P f
