-- How many octets stand in a message before its TLVs (RFC 5444, section 5.2).
use Rattle.std.specs.Prelude.{ℕ, ◌+◌, Option, Some, None}
use Rattle.mesh_packet.specs.Fields.{MessageFields}

-- so many octets, where there is something
abbrev pub size_if : {A : Type 0} → ℕ → Option A → ℕ
size_if n None = 0
size_if n (Some x) = n

-- its type, flags and size, and of the other parts those that are there
abbrev pub size_before : MessageFields → ℕ
size_before m = 4 + (size_if m.width m.originator + (size_if 1 m.limit + (size_if 1 m.count + size_if 2 m.sequence)))
