-- Reading from front to end, with the first fault that is met.
use Rattle.std.specs.Prelude.{ℕ, zero, suc, ◌+◌, ◌*◌, ◌-◌, List, [], ◌∷◌, ◌++◌, length, slice_range, replicate, Option, Some, None, Result, Ok, Bool, nat_lt, ◌==◌, ◌&&◌, ◌||◌, if◌then◌else◌}
use Rattle.mesh_atoms.specs.declared.refusal.Refusal.{Refusal}
use Rattle.mesh_atoms.specs.Reading.{◌>>=◌, refuse, has, octet_at, piece_at}
use Rattle.mesh_addr.specs.declared.records.RawAddr.{RawAddr}
use Rattle.mesh_addr.specs.Grammar.{padded}

-- what is known of a block before its middle parts are read
pub record ShapeFields : Type 0 where
  pub width : ℕ
  pub head : List ℕ
  pub tail : List ℕ
  -- the prefix length of all, or none where each has its own
  pub prefix : Option ℕ

-- how many octets a middle part has
abbrev pub mid_of : ShapeFields → ℕ
mid_of shape = shape.width - (length shape.head + length shape.tail)

-- both tail flags or both prefix flags
abbrev pub clashes : ℕ → Bool
clashes flags = (has flags 64 && has flags 32) || (has flags 16 && has flags 8)

-- the number of addresses
unfoldable pub count_at : List ℕ → ℕ → ℕ → Result (ℕ × ℕ) Refusal
count_at frame at end = do
  count ← octet_at 1 frame at end
  if count.0 == 0 then refuse at 8 else Ok count

-- the flags
unfoldable pub flags_at : List ℕ → ℕ → ℕ → Result (ℕ × ℕ) Refusal
flags_at frame at end = do
  flags ← octet_at 1 frame at end
  if clashes flags.0 then refuse at 9 else Ok flags

-- a number up to `room`
unfoldable pub number_at : List ℕ → ℕ → ℕ → ℕ → Result (ℕ × ℕ) Refusal
number_at frame at end room = do
  len ← octet_at 1 frame at end
  if nat_lt room len.0 then refuse at 10 else Ok len

-- octets after their number, up to `room`
unfoldable pub counted_at : List ℕ → ℕ → ℕ → ℕ → Result (List ℕ × ℕ) Refusal
counted_at frame at end room = do
  len ← number_at frame at end room
  piece_at 1 frame len.1 end len.0

-- the head, where there is one
unfoldable pub head_at : List ℕ → ℕ → ℕ → ℕ → ℕ → Result (List ℕ × ℕ) Refusal
head_at frame flags at end width = if has flags 128 then counted_at frame at end width else Ok ([], at)

-- the tail, of its octets or of zeros, where there is one
unfoldable pub tail_at : List ℕ → ℕ → ℕ → ℕ → ℕ → Result (List ℕ × ℕ) Refusal
tail_at frame flags at end room =
    if has flags 64 then counted_at frame at end room
    else if has flags 32 then (number_at frame at end room >>= λ len. Ok (replicate len.0 0, len.1))
    else Ok ([], at)

-- the place after so many parts of that size
unfoldable pub parts_end : ℕ → ℕ → ℕ → ℕ → Result ℕ Refusal
parts_end zero at end size = Ok at
parts_end (suc n) at end size = if nat_lt (end - at) size then refuse at 1 else parts_end n (at + size) end size

-- a prefix length
unfoldable pub prefix_at : List ℕ → ℕ → ℕ → ℕ → Result (ℕ × ℕ) Refusal
prefix_at frame at end width = do
  prefix ← octet_at 1 frame at end
  if nat_lt (8 * width) prefix.0 then refuse at 11 else Ok prefix

-- the prefix length of all, where there is one
unfoldable pub common_at : List ℕ → ℕ → ℕ → ℕ → ℕ → Result (Option ℕ × ℕ) Refusal
common_at frame flags at end width =
    if has flags 16 then (prefix_at frame at end width >>= λ p. Ok (Some p.0, p.1))
    else if has flags 8 then Ok (None, at)
    else Ok (Some (8 * width), at)

-- the next prefix length, where each has its own
abbrev pub own_at : List ℕ → Option ℕ → ℕ → ℕ → ℕ → Result (ℕ × ℕ) Refusal
own_at frame None at end width = prefix_at frame at end width
own_at frame (Some p) at end width = Ok (p, at)

-- the address of a middle part
abbrev pub addr_of : ShapeFields → List ℕ → ℕ → RawAddr
addr_of shape mid prefix = record { octets = padded (shape.head ++ (mid ++ shape.tail)); prefix = prefix }

-- so many addresses: middle parts from `mid` on, prefix lengths from `at` on
unfoldable pub addrs_at : ℕ → List ℕ → ShapeFields → ℕ → ℕ → ℕ → Result (List RawAddr × ℕ) Refusal
addrs_at zero frame shape mid at end = Ok ([], at)
addrs_at (suc n) frame shape mid at end =
    own_at frame shape.prefix at end shape.width >>= λ prefix.
    addrs_at n frame shape (mid + mid_of shape) prefix.1 end >>= λ others.
    Ok (addr_of shape (slice_range frame mid (mid + mid_of shape)) prefix.0 ∷ others.0, others.1)

-- a block from `at` on, and the place after it
unfoldable pub block_at : List ℕ → ℕ → ℕ → ℕ → Result (List RawAddr × ℕ) Refusal
block_at frame at end width = do
  count ← count_at frame at end
  flags ← flags_at frame count.1 end
  head ← head_at frame flags.0 flags.1 end width
  tail ← tail_at frame flags.0 head.1 end (width - length head.0)
  after ← parts_end count.0 tail.1 end (width - (length head.0 + length tail.0))
  common ← common_at frame flags.0 after end width
  addrs_at count.0 frame (record { width = width; head = head.0; tail = tail.0; prefix = common.0 }) tail.1 common.1 end
