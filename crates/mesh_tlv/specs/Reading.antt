-- How a TLV block is read, field by field, each with the place after it. Grammar says what it is, and what the flags
-- and reasons are.
use Rattle.std.specs.Prelude.{ℕ, ◌+◌, ◌-◌, ◌%◌, List, slice_range, Option, Some, None, Ok, Bool, not, ◌&&◌, ◌||◌, nat_lt, nat_le, ◌==◌, if◌then◌else◌, bit_and}
use Rattle.mesh_atoms.specs.Reading.{◌>>=◌, Reading, refuse, has, octet_at, short_at}
use Rattle.mesh_tlv.specs.Fields.{TlvFields, AddrTlvFields, unindexed}
use Rattle.mesh_tlv.specs.Items.{items_at}

-- flags that break no rule, where those of `barred` aren't taken
abbrev pub is_sound : ℕ → ℕ → Bool
is_sound barred flags =
    (bit_and flags barred == 0) && not (has flags 64 && has flags 32) && (has flags 16 || not (has flags 8 || has flags 4))

-- the flags
unfoldable pub flags_at : ℕ → List ℕ → ℕ → ℕ → Reading ℕ
flags_at barred frame at end = do
  flags ← octet_at 4 frame at end
  if is_sound barred flags.0 then Ok flags else refuse at 5

-- the type extension, 0 where it isn't flagged
unfoldable pub extension_at : ℕ → List ℕ → ℕ → ℕ → Reading ℕ
extension_at flags frame at end = if has flags 128 then octet_at 4 frame at end else Ok (0, at)

-- an index from `low` to below `count`
unfoldable pub index_octet_at : ℕ → ℕ → List ℕ → ℕ → ℕ → Reading ℕ
index_octet_at low count frame at end = do
  index ← octet_at 4 frame at end
  if nat_lt index.0 low || nat_le count index.0 then refuse at 6 else Ok index

-- the first and the last address that is covered
unfoldable pub indexes_at : ℕ → ℕ → List ℕ → ℕ → ℕ → Reading (ℕ × ℕ)
indexes_at flags count frame at end =
    if has flags 64 then (index_octet_at 0 count frame at end >>= λ start. Ok ((start.0, start.0), start.1))
    else if has flags 32 then (index_octet_at 0 count frame at end >>= λ start.
    index_octet_at start.0 count frame start.1 end >>= λ stop. Ok ((start.0, stop.0), stop.1))
    else Ok ((0, count - 1), at)

-- the length of a value
abbrev pub length_at : ℕ → List ℕ → ℕ → ℕ → Reading ℕ
length_at flags frame at end = if has flags 8 then short_at 4 frame at end else octet_at 4 frame at end

-- a value of so many equal parts, where it is flagged
unfoldable pub value_at : ℕ → ℕ → List ℕ → ℕ → ℕ → Reading (Option (List ℕ))
value_at flags parts frame at end =
    if has flags 16 then (length_at flags frame at end >>= λ len.
    if not (len.0 % parts == 0) then refuse at 7
    else if nat_lt (end - len.1) len.0 then refuse len.1 4
    else Ok (Some (slice_range frame len.1 (len.1 + len.0)), len.1 + len.0))
    else Ok (None, at)

-- how many equal parts a value has: with multivalue one for each covered address
abbrev pub part_count : Bool → ℕ → ℕ → ℕ
part_count multi first last = if multi then last + 1 - first else 1

-- a TLV of a block of `count` addresses, with none of the flags in `barred`
unfoldable pub tlv_of_at : ℕ → ℕ → List ℕ → ℕ → ℕ → Reading AddrTlvFields
tlv_of_at barred count frame at end = do
  kind ← octet_at 4 frame at end
  flags ← flags_at barred frame kind.1 end
  ext ← extension_at flags.0 frame flags.1 end
  index ← indexes_at flags.0 count frame ext.1 end
  value ← value_at flags.0 (part_count (has flags.0 4) index.0.0 index.0.1) frame index.1 end
  Ok (record { kind = kind.0; ext = ext.0; first = index.0.0; last = index.0.1; multi = has flags.0 4; value = value.0 }, value.1)

-- an address TLV, which takes each flag
abbrev pub addr_tlv_at : ℕ → List ℕ → ℕ → ℕ → Reading AddrTlvFields
addr_tlv_at count = tlv_of_at 0 count

-- a packet or message TLV, which takes neither an index (64 and 32) nor multivalue (4)
unfoldable pub tlv_at : List ℕ → ℕ → ℕ → Reading TlvFields
tlv_at frame at end = tlv_of_at 100 1 frame at end >>= λ tlv. Ok (unindexed tlv.0, tlv.1)

-- where a block's items begin and end, behind its length
unfoldable pub range_at : List ℕ → ℕ → ℕ → Reading ℕ
range_at frame at end = do
  len ← short_at 1 frame at end
  if nat_lt (end - len.1) len.0 then refuse at 4 else Ok (len.1, len.1 + len.0)

-- a block of such items: a length, and items that fill it
unfoldable pub block_at : {A : Type 0} → (List ℕ → ℕ → ℕ → Reading A) → List ℕ → ℕ → ℕ → Reading (List A)
block_at one frame at end = range_at frame at end >>= λ range. items_at (one frame) (range.1 - range.0) range.0 range.1
