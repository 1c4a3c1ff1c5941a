-- What the first worked HELLO tells, and that it is not refused.
use Rattle.mesh_laws.proofs.Common.{common_steps, ◌≡◌, ℕ, ◌⊎◌, inl, inr, refl, sym, ◌∙◌, ap, subst, arith, [], ◌∷◌, Contains, Some, None, IsTrue, IsDistinct, Addr4, Metric, Heard, HelloRow, RouterSettings, metric_value, Told, Tells, HasRowOf, LooksAt, tells_symmetric, HasAddressOn, IsHeld, FitsTwoHops, peer, me, third, three, own_row, no_relay, my_row, third_row, hello, IsReceiver, nothing, only, contains_head as here, none_is_some}
use Rattle.mesh_laws.proofs.WorkedReceiver.{told_of, IsOfPeer, address_in, peer_not_me, mine_is, mine, tells_of}

abbrev pub told : Told
told = told_of (Some Heard) (Some three)

-- Addresses and rows

pub third_not_me : third ≡ me → ⊥
third_not_me e = let f : ◌≡◌ {A = ℕ} 167772163 167772162 = ap (λ (a : Addr4). a.0) e in absurd (omega arith)

-- a row is one of the three
pub row_is : (row : HelloRow) → Contains hello.rows row → (row ≡ own_row) ⊎ ((row ≡ my_row) ⊎ (row ≡ third_row))
row_is row stands = grind (arith, common_steps, own_row)

-- and so is its address
pub data RowOf (a : Addr4) (row : HelloRow) : Type 0 where
  Own : row ≡ own_row → a ≡ peer → RowOf a row
  Mine : row ≡ my_row → a ≡ me → RowOf a row
  Beyond : row ≡ third_row → a ≡ third → RowOf a row

pub row_of : (a : Addr4) (row : HelloRow) → HasRowOf hello a row → RowOf a row
row_of a row has = elim (row_is row has.0) [
  | inl e ↦ Own e (address_in a row own_row has.1 e)
  | inr (inl e) ↦ Mine e (address_in a row my_row has.1 e)
  | inr (inr e) ↦ Beyond e (address_in a row third_row has.1 e)
]

-- it is the sender's own, or it isn't local and chooses no relay
own_alone : (row : HelloRow) → Contains hello.rows row → (row ≡ own_row) ⊎ ((row.local ≡ None) × (row.mpr ≡ no_relay))
own_alone row stands = grind (arith, common_steps, row_is)

pub of_peer : IsOfPeer hello
of_peer = record { originator = refl; willing = refl; validity = refl; own = (0, omega arith, refl); rows = own_alone }

-- no address is held before
pub none_held : (a : Addr4) → IsHeld nothing a → a ≡ peer
none_held a held = grind (arith, common_steps, none_is_some)

module _ (settings : RouterSettings) (r : IsReceiver settings) where
  pub my_metric : (a : Addr4) (row : HelloRow) (m : Metric) → a ≡ me → HasRowOf hello a row → row.metrics.link_in ≡ Some m → metric_value m ≡ 3
  my_metric a row m is has f = by_row (row_of a row has)
    where
      by_row : RowOf a row → metric_value m ≡ 3
      by_row (Own e other) = absurd (peer_not_me (sym other ∙ is))
      by_row (Mine e same) = let g : Some three ≡ Some m = sym (ap (λ (b : HelloRow). b.metrics.link_in) e) ∙ f in let k : three ≡ m = cc in sym (ap metric_value k)
      by_row (Beyond e other) = absurd (third_not_me (sym other ∙ is))

  pub tells : Tells settings 0 peer hello told
  tells = tells_of settings r hello (Some Heard) (Some three) of_peer (me, my_row, mine settings r, ((1, omega arith, refl), refl), refl) (
    (me, my_row, mine settings r, ((1, omega arith, refl), refl), refl),
    (λ n given. (let (a, row, on, has, f) = given in let e : metric_value n ≡ 3 = my_metric a row n (mine_is settings r 0 a on) has f in omega arith)),
  )

  -- the row of the address beyond is looked at, and no other
  pub looks_at : LooksAt settings told hello third third_row
  looks_at = grind (arith, common_steps, mine_is, peer)

  pub looked_at : (a : Addr4) (row : HelloRow) → LooksAt settings told hello a row → a ≡ third
  looked_at a row looks = by_row (row_of a row looks.stands)
    where
      by_row : RowOf a row → a ≡ third
      by_row (Own e is) = absurd (looks.not_theirs (let P : Addr4 → Type 0 = λ b. Contains (peer ∷ []) b in subst P (sym is) (here peer [])))
      by_row (Mine e is) = absurd (looks.not_mine (0, (let P : Addr4 → Type 0 = λ b. HasAddressOn settings 0 b in subst P (sym is) (mine settings r))))
      by_row (Beyond e is) = is

  pub fits : FitsTwoHops settings 0 nothing told hello
  unfolding IsDistinct
  fits = (
    1,
    (
      third ∷ [],
      (tt, tt),
      refl,
      (λ a. (
        (λ c. (let e = only third a c in let P : Addr4 → Type 0 = λ b. (row : HelloRow) × LooksAt settings told hello b row × IsTrue (tells_symmetric row.link row.other) in
            subst P (sym e) (third_row, looks_at, refl))),
        (λ given. (let e = looked_at a given.0 given.1 in let P : Addr4 → Type 0 = λ b. Contains (third ∷ []) b in subst P (sym e) (here third []))),
      )),
    ),
    omega arith,
  )
