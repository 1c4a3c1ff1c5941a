-- The addresses that a HELLO tells as SYMMETRIC neighbours are at most as many as its rows.
use Rattle.mesh_nhdp.proofs.Common.{common_steps, ◌≡◌, ℕ, ◌≤◌, ◌⊎◌, ◌↔◌, inl, inr, refl, sym, ◌∙◌, subst, arith, List, [], ◌∷◌, length, Contains, Option, false, IsSome, IsDistinct, AllByRecursion, false≢true, cases_Bool, cases_eq, IsDistinct-cons, Addr4, Hello, HelloRow, RouterSettings, addr_eq, HasAddress, Told, tells_symmetric, AreTwoHopRows, contains_head, contains_tail, contains_cases, contains_none, same_addr, contains_or_not, below_contains, TellsSymmetric}
use Rattle.mesh_nhdp.proofs.RowWalks.{symmetric_rows}

addr_other : (a b : Addr4) → (a ≡ b → ⊥) → addr_eq a b ≡ false
addr_other a b other = elim (cases_Bool (addr_eq a b)) [ inl is ↦ absurd (other (same_addr a b is)) | inr is ↦ is ]

other_than_all : (a : Addr4) (xs : List Addr4) → (Contains xs a → ⊥) → AllByRecursion (λ x. addr_eq a x ≡ false) xs
other_than_all a [] not = tt
other_than_all a (x ∷ xs) not = (addr_other a x (λ e. not (subst (λ (b : Addr4). Contains (x ∷ xs) b) (sym e) (contains_head x xs))), other_than_all a xs (λ c. not (contains_tail x xs a c)))

some_or_not : {X : Type 0} (o : Option X) → IsSome o ⊎ (IsSome o → ⊥)
some_or_not o = grind (arith, common_steps)

module _ (own listed : List Addr4) where
  shown_or_not : (row : HelloRow) → (IsSome row.link ⊎ IsSome row.other) ⊎ ((IsSome row.link ⊎ IsSome row.other) → ⊥)
  shown_or_not row = grind (arith, common_steps, some_or_not)

  tells_or_not : (row : HelloRow) → TellsSymmetric own listed row row.addr.addr ⊎ (TellsSymmetric own listed row row.addr.addr → ⊥)
  tells_or_not row = elim (cases_eq row.addr.prefix 32) [
    | inr not ↦ inr (λ h. let (looks, says, of) = h in not looks.0)
    | inl host ↦ elim (shown_or_not row) [
      | inr not ↦ inr (λ h. let (looks, says, of) = h in not looks.1)
      | inl shown ↦ elim (contains_or_not own row.addr.addr) [
        | inl mine ↦ inr (λ h. let (looks, says, of) = h in looks.2 mine)
        | inr not_mine ↦ elim (contains_or_not listed row.addr.addr) [
          | inl theirs ↦ inr (λ h. let (looks, says, of) = h in looks.3 theirs)
          | inr not_theirs ↦ elim (cases_Bool (tells_symmetric row.link row.other)) [
            | inl says ↦ inl ((host, shown, not_mine, not_theirs), says, refl)
            | inr not ↦ inr (λ h. let (looks, says, of) = h in false≢true (sym not ∙ says))
          ]
        ]
      ]
    ]
  ]

  -- one of the rows tells the address as a SYMMETRIC neighbour's
  abbrev TellsSome : List HelloRow → Addr4 → Type 0
  TellsSome rows a = (row : HelloRow) × Contains rows row × TellsSymmetric own listed row a

  -- the addresses of some rows, each once
  record Gathered (rows : List HelloRow) : Type 0 where
    addrs : List Addr4
    distinct : IsDistinct addr_eq addrs
    few : length addrs ≤ length rows
    to : (a : Addr4) → Contains addrs a → TellsSome rows a
    back : (a : Addr4) (row : HelloRow) → Contains rows row → TellsSymmetric own listed row a → Contains addrs a

  one_more : (row : HelloRow) (rows : List HelloRow) → Gathered rows → Gathered (row ∷ rows)
  one_more row rows rest = elim (tells_or_not row) [
    | inr not ↦ record {
      addrs = rest.addrs;
      distinct = rest.distinct;
      few = let few = rest.few in omega (arith, few);
      to = λ a c. later a (rest.to a c);
      back = λ a r c tells. elim (contains_cases row rows r c) [
        | inl here ↦ absurd (not (its (subst (λ (x : HelloRow). TellsSymmetric own listed x a) (sym here) tells)))
        | inr below ↦ rest.back a r below tells
      ];
    }
    | inl tells ↦ elim (contains_or_not rest.addrs row.addr.addr) [
      | inl there ↦ record {
        addrs = rest.addrs;
        distinct = rest.distinct;
        few = let few = rest.few in omega (arith, few);
        to = λ a c. later a (rest.to a c);
        back = λ a r c told. elim (contains_cases row rows r c) [
          | inl here ↦ let (looks, says, of) = subst (λ (x : HelloRow). TellsSymmetric own listed x a) (sym here) told in subst (λ (b : Addr4). Contains rest.addrs b) of there
          | inr below ↦ rest.back a r below told
        ];
      }
      | inr new ↦ record {
        addrs = row.addr.addr ∷ rest.addrs;
        distinct = IsDistinct-cons addr_eq row.addr.addr rest.addrs (other_than_all row.addr.addr rest.addrs new) rest.distinct;
        few = let few = rest.few in omega (arith, few);
        to = λ a c. elim (contains_cases row.addr.addr rest.addrs a c) [
          | inl same ↦ let (looks, says, of) = tells in (row, contains_head row rows, (looks, says, same))
          | inr below ↦ later a (rest.to a below)
        ];
        back = λ a r c told. elim (contains_cases row rows r c) [
          | inl here ↦ let (looks, says, of) = subst (λ (x : HelloRow). TellsSymmetric own listed x a) (sym here) told in
              subst (λ (b : Addr4). Contains (row.addr.addr ∷ rest.addrs) b) of (contains_head row.addr.addr rest.addrs)
          | inr below ↦ contains_tail row.addr.addr rest.addrs a (rest.back a r below told)
        ];
      }
    ]
  ]
    where
      later : (a : Addr4) → TellsSome rows a → TellsSome (row ∷ rows) a
      later a h = let (r, has, tells) = h in (r, contains_tail row rows r has, tells)

      its : {a : Addr4} → TellsSymmetric own listed row a → TellsSymmetric own listed row row.addr.addr
      its h = let (looks, says, of) = h in (looks, says, refl)

  gathered : (rows : List HelloRow) → Gathered rows
  unfolding IsDistinct
  gathered [] = record { addrs = []; distinct = tt; few = omega arith; to = λ a c. absurd (contains_none a c); back = λ a row c tells. absurd (contains_none row c) }
  gathered (row ∷ rows) = one_more row rows (gathered rows)

-- so many rows tell of a SYMMETRIC neighbour of the sender, and no more than there are
pub few_rows : (settings : RouterSettings) (told : Told) (hello : Hello) (own listed : List Addr4) → ((a : Addr4) → Contains own a ↔ HasAddress settings a) → told.listed ≡ listed →
    (count : ℕ) × (count ≤ length hello.rows) × AreTwoHopRows settings told hello count
few_rows settings told hello own listed own_is listed_is =
    let all = gathered own listed hello.rows in (
      length all.addrs,
      all.few,
      (
        all.addrs,
        all.distinct,
        refl,
        λ a. (
          λ c. (symmetric_rows settings told hello own listed own_is listed_is a).0 ((below_contains hello.rows (λ (row : HelloRow). TellsSymmetric own listed row a)).1 (all.to a c)),
          λ h. let (row, c, tells) = (below_contains hello.rows (λ (row : HelloRow). TellsSymmetric own listed row a)).0 ((symmetric_rows settings told hello own listed own_is listed_is a).1 h) in all.back a row c tells,
        ),
      ),
    )
