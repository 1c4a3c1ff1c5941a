-- The value of a digit in a few steps without a table.
use Rattle.std.specs.Prelude.{ℕ, ◌+◌, ◌-◌, ◌%◌, nat_lt, if◌then◌else◌, bit_or}

-- an octet less a number, going round at 256
abbrev pub less : ℕ → ℕ → ℕ
less octet number = (octet + (256 - number)) % 256

-- the value of the digit that an octet is; 255 for an octet that is none
abbrev pub digit_value : ℕ → ℕ
digit_value octet =
    if nat_lt (less octet 48) 10 then less octet 48
    else if nat_lt (less (bit_or octet 32) 97) 6 then (less (bit_or octet 32) 97 + 10) % 256
    else 255
