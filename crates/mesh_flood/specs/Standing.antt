-- Which messages are noted, and whether there is room for more.
use Rattle.std.specs.Prelude.{ℕ, ◌⊎◌, IsSome, IsTrue}
use Rattle.mesh_atoms.specs.declared.tuples.FloodKey.{FloodKey}
use Rattle.mesh_atoms.specs.declared.tuples.Noted.{Noted}
use Rattle.mesh_atoms.specs.Base.{Base, base_of, find, flood_eq}
use Rattle.mesh_atoms.specs.State.{NotedMessages}
use Rattle.mesh_flood.specs.Verdict.{is_full}

-- the set has a tuple of the key
abbrev pub HasKey : Base FloodKey Noted → FloodKey → Type 0
HasKey base key = IsSome (find flood_eq base key)

-- a received tuple of some interface, a processed or a forwarded tuple has the key
abbrev pub HasNoted : NotedMessages → FloodKey → Type 0
HasNoted noted key =
    ((i : ℕ) × HasKey (base_of noted.received i) key) ⊎ (HasKey noted.processed key ⊎ HasKey noted.forwarded key)

-- the received set of some interface, the processed or the forwarded set has 16,384 tuples
abbrev pub HasFullSet : NotedMessages → Type 0
HasFullSet noted =
    ((i : ℕ) × IsTrue (is_full (base_of noted.received i))) ⊎ (IsTrue (is_full noted.processed) ⊎ IsTrue (is_full noted.forwarded))
