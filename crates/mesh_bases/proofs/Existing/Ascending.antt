-- Listed addresses in ascending order.
use Rattle.mesh_bases.proofs.Common.{◌≡◌, ◌↔◌, ◌<◌, ◌⊎◌, inl, inr, suc, subst, ap, arith, List, [], ◌∷◌, get_or, Contains, cases_lt, cases_eq, Contains-get_or, AllPairs-cons, Addr4, IsAscending, Lists, all_pairs_tail, contains_cases, contains_head, contains_none, contains_tail, same_addr, IsListed}

none_ascends : IsAscending []
none_ascends i j d less low = absurd (omega arith)

-- a lesser address in front
ascends_from : (a : Addr4) (xs : List Addr4) → ((b : Addr4) → Contains xs b → a.0 < b.0) → IsAscending xs → IsAscending (a ∷ xs)
ascends_from a xs before up =
    AllPairs-cons (λ (b c : Addr4). b.0 < c.0) a xs (λ k d low. before (get_or xs k d) (Contains-get_or xs k d low)) up

first_is_least : (x : Addr4) (xs : List Addr4) → IsAscending (x ∷ xs) → (b : Addr4) → Contains xs b → x.0 < b.0
first_is_least x xs up b (k, low, is) = subst (λ (c : Addr4). x.0 < c.0) is (up 0 (suc k) b (omega arith) (omega arith))

-- the list has the address and the elements of another list
abbrev HasBoth : Addr4 → List Addr4 → List Addr4 → Type 0
HasBoth a xs ys = (b : Addr4) → Contains ys b ↔ ((a ≡ b) ⊎ Contains xs b)

in_front : (a : Addr4) (xs : List Addr4) → HasBoth a xs (a ∷ xs)
in_front a xs b = (
  λ has. contains_cases a xs b has,
  λ of. elim of [ inl same ↦ subst (λ (c : Addr4). Contains (a ∷ xs) c) same (contains_head a xs) | inr has ↦ contains_tail a xs b has ],
)

further_back : (a x : Addr4) (xs ys : List Addr4) → HasBoth a xs ys → HasBoth a (x ∷ xs) (x ∷ ys)
further_back a x xs ys are b = (
  λ has. elim ((in_front x ys b).0 has) [
    | inl same ↦ inr ((in_front x xs b).1 (inl same))
    | inr later ↦ elim ((are b).0 later) [ inl is ↦ inl is | inr old ↦ inr (contains_tail x xs b old) ]
  ],
  λ of. elim of [
    | inl is ↦ contains_tail x ys b ((are b).1 (inl is))
    | inr has ↦ elim ((in_front x xs b).0 has) [
      | inl same ↦ (in_front x ys b).1 (inl same)
      | inr old ↦ contains_tail x ys b ((are b).1 (inr old))
    ]
  ],
)

-- an address more, at its place
put : (a : Addr4) (xs : List Addr4) → IsAscending xs → (ys : List Addr4) × IsAscending ys × HasBoth a xs ys
put a [] up = (a ∷ [], ascends_from a [] (λ b has. absurd (contains_none b has)) none_ascends, in_front a [])
put a (x ∷ xs) up = elim (cases_lt a.0 x.0) [
  | inl less ↦ (
    a ∷ (x ∷ xs),
    ascends_from a (x ∷ xs) (λ b has. elim (contains_cases x xs b has) [
      | inl same ↦ subst (λ (c : Addr4). a.0 < c.0) same less
      | inr later ↦ let above : x.0 < b.0 = first_is_least x xs up b later in omega arith
    ]) up,
    in_front a (x ∷ xs),
  )
  | inr upto ↦ elim (cases_eq x.0 a.0) [
    | inl same ↦ (
      x ∷ xs,
      up,
      λ b. (
        λ has. inr has,
        λ of. elim of [ inl is ↦ (in_front x xs b).1 (inl (subst (λ (c : Addr4). x ≡ c) is (same_addr x a same))) | inr has ↦ has ],
      ),
    )
    | inr other ↦
        let (ys, rises, are) = put a xs (all_pairs_tail (λ (b c : Addr4). b.0 < c.0) x xs up) in (
          x ∷ ys,
          ascends_from x ys (λ b has. elim ((are b).0 has) [
            | inl same ↦ let at : a.0 ≡ b.0 = ap (λ (c : Addr4). c.0) same in omega arith
            | inr later ↦ first_is_least x xs up b later
          ]) rises,
          further_back a x xs ys are,
        )
  ]
]

ascending_of : (xs : List Addr4) → (ys : List Addr4) × Lists ys (Contains xs)
ascending_of [] = ([], (none_ascends, λ b. (λ has. has, λ has. has)))
ascending_of (x ∷ xs) =
    let (ys, (up, are)) = ascending_of xs in
    let (zs, rises, both) = put x ys up in (
      zs,
      (
        rises,
        λ b. (
          λ has. (in_front x xs b).1 (elim ((both b).0 has) [ inl same ↦ inl same | inr old ↦ inr ((are b).0 old) ]),
          λ has. (both b).1 (elim ((in_front x xs b).0 has) [ inl same ↦ inl same | inr old ↦ inr ((are b).1 old) ]),
        ),
      ),
    )

-- listed addresses stand in an ascending list
pub list_ascending : {P : Addr4 → Type 0} → IsListed P → (ys : List Addr4) × Lists ys P
list_ascending (xs, are) =
    let (ys, (up, same)) = ascending_of xs in
    (ys, (up, λ b. (λ has. (are b).0 ((same b).0 has), λ p. (same b).1 ((are b).1 p))))
