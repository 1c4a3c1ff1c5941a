-- The spelling of a block that is written: of the fewest octets, and among those the one that is preferred.
use Rattle.std.specs.Prelude.{◌≡◌, ℕ, ◌+◌, ◌*◌, ◌≤◌, List, [], ◌∷◌, ◌++◌, length, cond}
use Rattle.mesh_atoms.specs.Reading.{has}
use Rattle.mesh_addr.specs.declared.records.RawAddr.{RawAddr}
use Rattle.mesh_addr.specs.Grammar.{SpellsBlock}

-- the order of preference: by the length of the head, then the tail's form (none, zeros, full) and length, then the
-- form of the prefix lengths (none, one, one for each)
abbrev pub rank : {width : ℕ} {addrs : List RawAddr} {text : List ℕ} → SpellsBlock width addrs text → ℕ
rank spelled =
    ((length spelled.head * 3 + cond (has spelled.flags 64) 2 (cond (has spelled.flags 32) 1 0)) * 17 + length spelled.tail) * 3
    + cond (has spelled.flags 16) 1 (cond (has spelled.flags 8) 2 0)

-- the sum of those of these flags that are set: head, full tail, zero tail, one prefix length, one for each address
abbrev pub known_flags : ℕ → ℕ
known_flags flags =
    cond (has flags 128) 128 0 + cond (has flags 64) 64 0 + cond (has flags 32) 32 0 + cond (has flags 16) 16 0 + cond (has flags 8) 8 0

-- A spelling of the block without a reserved flag, of addresses of at most 16 octets. None has fewer octets, and of those
-- with as many this is the one to be preferred.
pub record IsLeast (width : ℕ) (addrs : List RawAddr) (text : List ℕ) : Type 0 where
  pub spelled : SpellsBlock width addrs text
  pub narrow : width ≤ 16
  pub unreserved : spelled.flags ≡ known_flags spelled.flags
  pub least : (other : List ℕ) → SpellsBlock width addrs other → length text ≤ length other
  pub preferred : (other : List ℕ) (h : SpellsBlock width addrs other) → length other ≡ length text → rank spelled ≤ rank h

-- the least spelling of the block was put behind the old octets
abbrev pub WroteLeast : ℕ → List RawAddr → List ℕ → List ℕ → Type 0
WroteLeast width addrs old new = (text : List ℕ) × (new ≡ old ++ text) × IsLeast width addrs text

-- the old octets are a prefix of the new ones
abbrev pub Grew : List ℕ → List ℕ → Type 0
Grew old new = (more : List ℕ) × (new ≡ old ++ more)

-- the first of some addresses
abbrev pub IsFirst : RawAddr → List RawAddr → Type 0
IsFirst first [] = ⊥
IsFirst first (a ∷ addrs) = first ≡ a
