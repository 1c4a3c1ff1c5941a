-- What calls of a table give and do.
use Rattle.std.specs.Prelude.{◌≡◌, ◌≤◌, ℕ, Bool, cond, Option, None, Some, map}
use Rattle.std.specs.Borrow.{Bor, MutBor, RattleType, Fml, LendsSo}
use Rattle.mesh_atoms.specs.Base.{Base, find, SetsOnly}

-- an entry that is lent
abbrev pub entry_of : {K V : Type 0} → Option (Bor K × Bor V × ℕ) → Option (K × (V × ℕ))
entry_of None = None
entry_of (Some e) = Some (e.0.now, (e.1.now, e.2))

-- a record and a moment that are lent
abbrev pub value_of : {V : Type 0} → Option (Bor V × ℕ) → Option (V × ℕ)
value_of None = None
value_of (Some e) = Some (e.0.now, e.1)

-- the base with what stands at that key changed; all else, and each place, stays
abbrev pub changed_at : {K V : Type 0} → (K → K → Bool) → Base K V → K → (V × ℕ → V × ℕ) → Base K V
changed_at eq base key change = map (λ e. (e.0, cond (eq key e.0) (change e.1) e.1)) base

-- once the borrow r ends, the table has at that key the last record written through r, and where there is no such key
-- it stays as it is
abbrev pub LendsValue : (T V : RattleType) {K : Type 0} → (T.Denot → Base K V.Denot) → (K → K → Bool) → K → MutBor T.Denot →
    Option (MutBor V.Denot) → Fml
LendsValue T V content eq key table r =
    LendsSo T V table r (λ n w. content n ≡ changed_at eq (content table.now) key (λ e. (w, e.1))) (λ n. content n ≡ content table.now)

-- the entry of that key and record, whose moment is at or below now, is taken out
pub record TakesExpired {K V : Type 0} (eq : K → K → Bool) (now : ℕ) (key : K) (value : V) (old new : Base K V) : Type 0 where
  pub until : ℕ
  pub stood : find eq old key ≡ Some (value, until)
  pub late : until ≤ now
  pub gone : SetsOnly eq old new key None
