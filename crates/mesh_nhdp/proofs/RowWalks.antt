-- A walk over the rows of a HELLO.
use Rattle.mesh_nhdp.proofs.Common.{arith, common_steps, ◌≡◌, ℕ, ◌+◌, ◌↔◌, inl, inr, refl, sym, ◌∙◌, ap, subst, List, length, Contains, slice_get, Option, Some, IsTrue, true, false, ◌≢◌, Addr4, NetAddr, Hello, HelloRow, LinkKey, TwoHopKey, TwoHop, RouterSettings, Base, find, host, two_hop_eq, HasAddress, Told, LooksAt, tells_symmetric, TellsTwoHop, By_row, By_none, row_makes, two_hop_equiv, same_two_hop, LooksOn, RowTells, Looked, Passed, TellsSymmetric, SomeBelow, below_here, below_later, below_cases, below_contains, same_address, cond_true as on_true}
use Rattle.mesh_atoms.proofs.Nets.{same_net}
use Rattle.mesh_nhdp.proofs.TwoHops.{on_false}

-- what the rows below a place tell of an address
pub data RowsTell (own listed : List Addr4) (rows : List HelloRow) (n until : ℕ) (a : Addr4) (stood new : Option (TwoHop × ℕ)) : Type 0 where
  By : (row : HelloRow) → SomeBelow rows n (λ r. r ≡ row) → LooksOn own listed row → row.addr.addr ≡ a → new ≡ row_makes until row → RowsTell own listed rows n until a stood new
  No : (SomeBelow rows n (λ r. LooksOn own listed r × (r.addr.addr ≡ a)) → ⊥) → new ≡ stood → RowsTell own listed rows n until a stood new

two_hop_other : (k l : TwoHopKey) → (k ≡ l → ⊥) → two_hop_eq k l ≡ false
two_hop_other k l other = grind (arith, common_steps, same_two_hop)

module _ (own listed : List Addr4) (rows : List HelloRow) (n until : ℕ) (link : LinkKey) (row : HelloRow) (at : slice_get rows n ≡ Some row) (old new : Base TwoHopKey TwoHop) where
  -- rows whose step leaves the tuple of the address
  passed : (a : Addr4) (stood : Option (TwoHop × ℕ)) → (LooksOn own listed row → row.addr.addr ≡ a → ⊥) →
      find two_hop_eq new (record { link = link; addr = a }) ≡ find two_hop_eq old (record { link = link; addr = a }) →
      RowsTell own listed rows n until a stood (find two_hop_eq old (record { link = link; addr = a })) →
      RowsTell own listed rows (n + 1) until a stood (find two_hop_eq new (record { link = link; addr = a }))
  passed a stood not same (By r below looks of makes) = By r (below_later rows (λ x. x ≡ r) n below) looks of (same ∙ makes)
  passed a stood not same (No none is) = No (λ below. elim (below_cases rows (λ r. LooksOn own listed r × (r.addr.addr ≡ a)) n row at below) [
    | inl before ↦ none before
    | inr here ↦ not here.0 here.1
  ]) (same ∙ is)

  pub one_more : RowTells own listed link until row old new → (a : Addr4) (stood : Option (TwoHop × ℕ)) → RowsTell own listed rows n until a stood (find two_hop_eq old (record { link = link; addr = a })) →
      RowsTell own listed rows (n + 1) until a stood (find two_hop_eq new (record { link = link; addr = a }))
  one_more (Passed not same) a stood tells = passed a stood (λ looks of. not looks) (ap (λ (b : Base TwoHopKey TwoHop). find two_hop_eq b (record { link = link; addr = a })) same) tells
  one_more (Looked looks sets) a stood tells = elim (same_address row.addr.addr a) [
    | inl same ↦ By row (below_here rows (λ r. r ≡ row) n row at refl) looks same
        (sets (record { link = link; addr = a }) ∙ on_true _ (row_makes until row) (find two_hop_eq old (record { link = link; addr = a }))
        (subst (λ (b : Addr4). two_hop_eq (record { link = link; addr = row.addr.addr }) (record { link = link; addr = b }) ≡ true) same (two_hop_equiv.refl (record { link = link; addr = row.addr.addr }))))
    | inr other ↦ passed a stood (λ l of. other of) (sets (record { link = link; addr = a }) ∙ on_false _ (row_makes until row) (find two_hop_eq old (record { link = link; addr = a }))
        (two_hop_other (record { link = link; addr = row.addr.addr }) (record { link = link; addr = a }) (λ e. other (ap (λ (k : TwoHopKey). k.addr) e)))) tells
  ]

  pub others_more : RowTells own listed link until row old new → (key : TwoHopKey) → key.link ≢ link → find two_hop_eq new key ≡ find two_hop_eq old key
  others_more h0 key other = grind (arith, common_steps, on_false, two_hop_other)

module _ (settings : RouterSettings) (told : Told) (hello : Hello) (own listed : List Addr4) (own_is : (a : Addr4) → Contains own a ↔ HasAddress settings a) (listed_is : told.listed ≡ listed) where
  -- the row is looked at
  pub looks_at : (row : HelloRow) (a : Addr4) → Contains hello.rows row → LooksOn own listed row → row.addr.addr ≡ a → LooksAt settings told hello a row
  looks_at row a stands looks of = record {
    stands = (stands, same_net row.addr (host a) of looks.0);
    not_mine = λ mine. looks.2 (subst (λ (b : Addr4). Contains own b) (sym of) ((own_is a).1 mine));
    not_theirs = λ has. looks.3 (subst (λ (b : Addr4). Contains listed b) (sym of) (subst (λ (xs : List Addr4). Contains xs a) listed_is has));
    shown = looks.1;
  }

  pub looks_on : (row : HelloRow) (a : Addr4) → LooksAt settings told hello a row → LooksOn own listed row × (row.addr.addr ≡ a)
  looks_on row a looks =
      let of : row.addr.addr ≡ a = ap (λ (net : NetAddr). net.addr) looks.stands.1 in (
        (
          ap (λ (net : NetAddr). net.prefix) looks.stands.1,
          looks.shown,
          (λ mine. looks.not_mine ((own_is a).0 (subst (λ (b : Addr4). Contains own b) of mine))),
          (λ has. looks.not_theirs (subst (λ (xs : List Addr4). Contains xs a) (sym listed_is) (subst (λ (b : Addr4). Contains listed b) of has))),
        ),
        of,
      )

  pub rows_all : (until : ℕ) (a : Addr4) (stood new : Option (TwoHop × ℕ)) → RowsTell own listed hello.rows (length hello.rows) until a stood new → TellsTwoHop settings told hello until a stood new
  rows_all until a stood new (By row below looks of makes) =
      let (r, c, same) = (below_contains hello.rows (λ r. r ≡ row)).0 below in
      By_row row (looks_at row a (subst (λ (x : HelloRow). Contains hello.rows x) same c) looks of) makes
  rows_all until a stood new (No none is) =
      By_none (λ row looks. none ((below_contains hello.rows (λ r. LooksOn own listed r × (r.addr.addr ≡ a))).1 (row, looks.stands.0, looks_on row a looks))) is

  -- so are the rows that say SYMMETRIC
  pub symmetric_rows : (a : Addr4) → SomeBelow hello.rows (length hello.rows) (λ row. TellsSymmetric own listed row a)
      ↔ ((row : HelloRow) × LooksAt settings told hello a row × IsTrue (tells_symmetric row.link row.other))
  symmetric_rows a = (
    λ s. let (row, c, tells) = (below_contains hello.rows (λ row. TellsSymmetric own listed row a)).0 s in (row, looks_at row a c tells.0 tells.2, tells.1),
    λ h. let (row, looks, says) = h in
        let on = looks_on row a looks in
        (below_contains hello.rows (λ row. TellsSymmetric own listed row a)).1 (row, looks.stands.0, (on.0, says, on.1)),
  )
