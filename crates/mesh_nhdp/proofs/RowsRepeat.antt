-- Rows of a HELLO that repeat what is held of a link.
use Rattle.mesh_nhdp.proofs.Common.{arith, common_steps, ◌≡◌, ℕ, ◌+◌, inl, inr, refl, sym, ◌∙◌, ap, subst, List, length, Contains, slice_get, Option, Some, None, IsTrue, Bool, true, false, cond, ◌&&◌, option_map, Addr4, Hello, HelloRow, Link, LinkKey, TwoHopKey, TwoHop, Base, find, SetsOnly, two_hop_eq, IsKept, same_two_hop, cond_true as on_true, SameTuples, DropsEnded, is_symmetric_in, RepeatsRow, RepeatsRows, LooksOn, RowTells, SomeBelow, below_cases, below_contains}
use Rattle.mesh_nhdp.proofs.TwoHops.{on_false}

pub both_true : (a b : Bool) → IsTrue (a && b) → IsTrue a × IsTrue b
both_true a b h = grind (arith, common_steps)

-- the record of an entry
abbrev record_of : Option (TwoHop × ℕ) → Option TwoHop
record_of = option_map (λ (t : TwoHop × ℕ). t.0)

pub row_value : (b : Bool) (x : TwoHop) (u : ℕ) → option_map (λ (t : TwoHop × ℕ). t.0) (cond b (Some (x, u)) None) ≡ cond b (Some x) None
row_value b x u = grind (arith, common_steps)

-- an entry that is set to the record that it has
set_same : (old new : Base TwoHopKey TwoHop) (key : TwoHopKey) (entry : Option (TwoHop × ℕ)) → SetsOnly two_hop_eq old new key entry →
    record_of (find two_hop_eq old key) ≡ record_of entry → SameTuples two_hop_eq old new
set_same old new key entry sets same q = grind (arith, common_steps, on_true, same_two_hop, on_false)

module _ (own listed : List Addr4) (link : LinkKey) where
  -- a row that repeats what is held, where it is looked at, changes nothing but a moment
  pub row_same : (until : ℕ) (row : HelloRow) (old new : Base TwoHopKey TwoHop) → RowTells own listed link until row old new → (LooksOn own listed row → RepeatsRow old link row) → SameTuples two_hop_eq old new
  row_same until row old new h4 repeats = grind (arith, common_steps, set_same, row_value)

  -- the rows below a place repeat what is held
  abbrev pub RowsRepeat : List HelloRow → ℕ → Base TwoHopKey TwoHop → Type 0
  RowsRepeat rows n old = (row : HelloRow) → SomeBelow rows n (λ r. r ≡ row) → LooksOn own listed row → RepeatsRow old link row

  -- one row more, by what is the same as at the beginning but for moments
  pub repeat_more : (rows : List HelloRow) (n : ℕ) (row : HelloRow) (start old : Base TwoHopKey TwoHop) → slice_get rows n ≡ Some row → SameTuples two_hop_eq start old → (LooksOn own listed row → RepeatsRow old link row) →
      RowsRepeat rows n start → RowsRepeat rows (n + 1) start
  repeat_more rows n row start old at same repeats so_far r below looks = elim (below_cases rows (λ (x : HelloRow). x ≡ r) n row at below) [
    | inl before ↦ so_far r before looks
    | inr here ↦ subst (λ (x : HelloRow). RepeatsRow start link x) here
        (sym (same (record { link = link; addr = row.addr.addr })) ∙ repeats (subst (λ (x : HelloRow). LooksOn own listed x) (sym here) looks))
  ]

  -- all of them
  pub repeat_all : (hello : Hello) (start : Base TwoHopKey TwoHop) → RowsRepeat hello.rows (length hello.rows) start → RepeatsRows own listed start link hello
  repeat_all hello start all row has looks = all row ((below_contains hello.rows (λ (r : HelloRow). r ≡ row)).1 (row, has, refl)) looks

  stays : (t : Option (TwoHop × ℕ)) (new : Option (TwoHop × ℕ)) (P : Type 0) (b : Bool) → b ≡ true → IsKept (λ (t : TwoHop × ℕ). (P × (b ≡ false)) → ⊥) t new → new ≡ t
  stays t new P b is kept = grind (arith, common_steps)

  -- the tuples of a link that is SYMMETRIC stay, so that rows which repeat them then repeat them before too
  pub repeated_before : (keys : List LinkKey) (links : Base LinkKey Link) (now : ℕ) (hello : Hello) (old new : Base TwoHopKey TwoHop) → DropsEnded keys links now old new → is_symmetric_in links now link ≡ true →
      RepeatsRows own listed new link hello → RepeatsRows own listed old link hello
  repeated_before keys links now hello old new drops is repeats row has looks =
      let key : TwoHopKey = record { link = link; addr = row.addr.addr } in
      sym (ap record_of (stays (find two_hop_eq old key) (find two_hop_eq new key) (Contains keys link) (is_symmetric_in links now link) is (drops key))) ∙ repeats row has looks
