-- The pieces that lines are made of.
use Rattle.std.specs.Prelude.{ℕ, List, ◌++◌, length, take, Option, None, Some, Bool, codes, decimal, ◌==◌, if◌then◌else◌}
use Rattle.std.specs.Int.{to_be_bytes, w32}
use Rattle.hex.specs.Hex.{encode_lower}
use Rattle.mesh_atoms.specs.declared.addr.Addr4.{Addr4}
use Rattle.mesh_addr.specs.declared.records.RawAddr.{RawAddr}

-- a label, and a number in decimal digits
unfoldable pub numbered : List ℕ → ℕ → List ℕ
numbered label number = label ++ decimal number

-- a label, and a number that may be absent
unfoldable pub numbered_or_none : List ℕ → Option ℕ → List ℕ
numbered_or_none label None = label ++ codes "none"
numbered_or_none label (Some number) = label ++ decimal number

-- a label, and the octets of an address of that width
unfoldable pub addressed : List ℕ → ℕ → RawAddr → List ℕ
addressed label width addr = label ++ encode_lower (take width addr.octets)

-- a label, and an address of that width that may be absent
unfoldable pub addressed_or_none : List ℕ → ℕ → Option RawAddr → List ℕ
addressed_or_none label width None = label ++ codes "none"
addressed_or_none label width (Some addr) = addressed label width addr

-- a label, and the four octets of an address that is given as a number, its first octet highest
unfoldable pub addressed_by_number : List ℕ → Addr4 → List ℕ
addressed_by_number label addr = label ++ encode_lower (to_be_bytes w32 addr.0)

-- a label, and the value of a TLV
unfoldable pub valued : List ℕ → Option (List ℕ) → List ℕ
valued label None = label ++ codes "none"
valued label (Some octets) = label ++ (if length octets == 0 then codes "empty" else encode_lower octets)

-- a label, and a choice
unfoldable pub chosen : List ℕ → Bool → List ℕ
chosen label choice = label ++ (if choice then codes "yes" else codes "no")

-- the name of the rule of this number that a line, a HELLO or a TC broke
unfoldable pub reason_name : ℕ → List ℕ
reason_name reason =
    if reason == 1 then codes "Short"
    else if reason == 2 then codes "Version"
    else if reason == 3 then codes "MessageSize"
    else if reason == 4 then codes "BlockLength"
    else if reason == 5 then codes "TlvFlags"
    else if reason == 6 then codes "TlvIndex"
    else if reason == 7 then codes "TlvValue"
    else if reason == 8 then codes "NoAddresses"
    else if reason == 9 then codes "AddrFlags"
    else if reason == 10 then codes "AddrCut"
    else if reason == 11 then codes "PrefixLength"
    else if reason == 12 then codes "NotHex"
    else if reason == 13 then codes "OddDigits"
    else if reason == 20 then codes "AddressWidth"
    else if reason == 21 then codes "HopLimit"
    else if reason == 22 then codes "HopCount"
    else if reason == 23 then codes "Validity"
    else if reason == 24 then codes "Interval"
    else if reason == 25 then codes "Willing"
    else if reason == 26 then codes "Undefined"
    else if reason == 27 then codes "TwoValues"
    else if reason == 28 then codes "Prefix"
    else if reason == 29 then codes "Metric"
    else if reason == 32 then codes "AddressWidth"
    else if reason == 33 then codes "Heading"
    else if reason == 34 then codes "Validity"
    else if reason == 35 then codes "Interval"
    else if reason == 36 then codes "Content"
    else if reason == 37 then codes "AddrType"
    else if reason == 38 then codes "Gateway"
    else if reason == 39 then codes "Metric"
    else codes "none"

-- a label, and the name of a rule
unfoldable pub named : List ℕ → ℕ → List ℕ
named label reason = label ++ reason_name reason
