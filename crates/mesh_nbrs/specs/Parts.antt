-- The notes of links by the addresses of their keys.
use Rattle.std.specs.Prelude.{◌≡◌, List, Contains, Option, Some, None, IsSome}
use Rattle.std.specs.Map.{lookup}
use Rattle.mesh_atoms.specs.declared.addr.Addr4.{Addr4}
use Rattle.mesh_atoms.specs.Base.{addr_eq}
use Rattle.mesh_nbrs.specs.declared.neighbours.LinkNote.{LinkNote}
use Rattle.mesh_nbrs.specs.declared.summary.Summary.{Summary}
use Rattle.mesh_nbrs.specs.Neighbours.{IsNotesSummary}

-- a note of a link whose key is the address
abbrev pub IsNoteAt : List LinkNote → Addr4 → LinkNote → Type 0
IsNoteAt notes a note = Contains notes note × (note.key.addr ≡ a)

-- what the notes of the address tell together, where there are some
abbrev pub IsSummaryOf : List LinkNote → Addr4 → Option Summary → Type 0
IsSummaryOf notes a None = (note : LinkNote) → IsNoteAt notes a note → ⊥
IsSummaryOf notes a (Some s) = IsNotesSummary (IsNoteAt notes a) s × ((note : LinkNote) × IsNoteAt notes a note)

-- what stands at the address
abbrev pub part_of : List (Addr4 × Summary) → Addr4 → Option Summary
part_of parts a = lookup (addr_eq a) parts

-- at each address stands what its notes tell
abbrev pub AreSummariesOf : List LinkNote → List (Addr4 × Summary) → Type 0
AreSummariesOf notes parts = (a : Addr4) → IsSummaryOf notes a (part_of parts a)

-- something stands at one of the addresses
abbrev pub HasSummaryAt : List (Addr4 × Summary) → List Addr4 → Type 0
HasSummaryAt parts addrs = (a : Addr4) × Contains addrs a × IsSome (part_of parts a)
