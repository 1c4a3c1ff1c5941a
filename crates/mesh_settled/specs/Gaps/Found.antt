-- What the tests of a key find, and the least gap among keys.
use Rattle.std.specs.Prelude.{ℕ, ◌≤◌, List, Contains, Option, Some, None, Bool, true, false, cond, not, ◌&&◌, nat_lt, IsTrue}
use Rattle.mesh_atoms.specs.declared.addr.Addr4.{Addr4}
use Rattle.mesh_settled.specs.declared.gaps.compare.Apart.{Apart}
use Rattle.mesh_settled.specs.declared.gaps.compare.Difference.{Difference}
use Rattle.mesh_settled.specs.declared.gaps.compare.HeldAndPresent.{HeldAndPresent}
use Rattle.mesh_settled.specs.declared.gaps.found.Found.{Found}
use Rattle.mesh_atoms.specs.declared.gap.GapKey.{GapKey}
use Rattle.mesh_settled.specs.Gaps.Fields.{Field, SaySame, AllSame, Differ, DifferFrom}
use Rattle.mesh_settled.specs.Gaps.Gaps.{Look, IsGapAt, AreSame, at_field, rank_of, is_ranked_before}

-- the test of a field: it finds both numbers where the two say something else
abbrev pub IsFieldTest : Field → Field → Option Apart → Type 0
IsFieldTest f g None = SaySame f g
IsFieldTest f g (Some d) = Differ f g d.held d.present

-- the test of all fields, the first of which is counted as `at`: it finds the first that differs
abbrev pub IsTestFrom : ℕ → List Field → List Field → Option Difference → Type 0
IsTestFrom at fs gs None = AllSame fs gs
IsTestFrom at fs gs (Some d) = DifferFrom at fs gs d.field d.held d.present

-- the test of a key: it finds a gap with both its values, or that there is none
abbrev pub IsTest : Look → GapKey → Option HeldAndPresent → Type 0
IsTest l key None = AreSame l key
IsTest l key (Some v) = IsGapAt l key v.held v.present × (AreSame l key → ⊥)

-- the least of the addresses that the list hasn't
abbrev pub IsLeastMissing : (Addr4 → Type 0) → List Addr4 → Option Addr4 → Type 0
IsLeastMissing P list None = (a : Addr4) → P a → Contains list a
IsLeastMissing P list (Some b) = P b × (Contains list b → ⊥) × ((a : Addr4) → P a → (Contains list a → ⊥) → b.0 ≤ a.0)

-- the least address, with one more that the list has or hasn't
abbrev pub lower : Option Addr4 → Addr4 → Bool → Option Addr4
lower None a had = cond had None (Some a)
lower (Some b) a had = cond (not had && nat_lt a.0 b.0) (Some a) (Some b)

-- the lesser of the two
abbrev pub least_of : Option Addr4 → Option Addr4 → Option Addr4
least_of best None = best
least_of best (Some a) = lower best a false

-- both sides have a tuple
abbrev pub unequal : Option Difference → Option HeldAndPresent
unequal None = None
unequal (Some d) = Some (record { held = Some (at_field d.field d.held); present = Some (at_field d.field d.present) })

-- what the test of a key finds, where the flags say whether a tuple is held and whether there is one at present
abbrev pub compared : Bool → Bool → Option Difference → Option HeldAndPresent
compared true true difference = unequal difference
compared true false difference = Some (record { held = Some (at_field 0 None); present = None })
compared false true difference = Some (record { held = None; present = Some (at_field 0 None) })
compared false false difference = None

-- a side has a tuple of the key with these fields; or it has none
abbrev pub IsSide : (List Field → Type 0) → Option (List Field) → Type 0
IsSide P None = (fs : List Field) → P fs → ⊥
IsSide P (Some fs) = P fs × ((gs : List Field) → P gs → AllSame gs fs)

-- what is found is a gap
abbrev pub IsGap : Look → Found → Type 0
IsGap l f = IsGapAt l f.key f.held f.present × (AreSame l f.key → ⊥)

-- the least gap among these keys, if there is one
abbrev pub IsLeastGap : Look → (GapKey → Type 0) → Option Found → Type 0
IsLeastGap l P None = (key : GapKey) → P key → AreSame l key
IsLeastGap l P (Some f) =
    P f.key × IsGap l f × ((key : GapKey) → P key → IsTrue (is_ranked_before (rank_of key) (rank_of f.key)) → AreSame l key)

-- the one of the two with the lesser key
abbrev pub lesser : Option Found → Option Found → Option Found
lesser None g = g
lesser (Some f) None = Some f
lesser (Some f) (Some g) = cond (is_ranked_before (rank_of g.key) (rank_of f.key)) (Some g) (Some f)

-- what is found at a key, where its test finds a gap
abbrev pub found_at : GapKey → Option HeldAndPresent → Option Found
found_at key None = None
found_at key (Some v) = Some (record { key = key; held = v.held; present = v.present })
