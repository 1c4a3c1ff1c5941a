-- The keys of a table in order.
use Rattle.std.specs.Prelude.{◌≡◌, Bool, is_some}
use Rattle.std.specs.declared.cmp.Ordering.{Ordering}
use Rattle.std.specs.BTreeSet.{BTreeSet, contains}
use Rattle.mesh_atoms.specs.Base.{Base, find}

-- the set has exactly the keys of the tuples
abbrev pub AreKeys : {K V : Type 0} → (K → K → Bool) → (K → K → Ordering) → BTreeSet K → Base K V → Type 0
AreKeys {K} eq cmp keys base = (q : K) → contains cmp keys q ≡ is_some (find eq base q)
