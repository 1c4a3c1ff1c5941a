-- The addresses of which something is said are those that are put into the list.
use Rattle.mesh_hello.proofs.Common.{◌≡◌, ◌++◌, ℕ, Bool, true, false, cond, nat_lt, inl, inr, List, [], ◌∷◌, refl, sym, ◌∙◌, ap, subst, slice_get, arith, Contains, Option, Some, None, IsTrue, common_steps, flat_map, keys_of, false≢true, cases_eq, Contains-append_left, Contains-append_right, Contains-append_cases, Addr4, LinkStatus, Symmetric, Heard, Interface, LinkKey, Link, Lost, Neighbour, Base, Has, Part, This_if, Other_if, Link_lost, Link_symmetric, Link_heard, Other_lost, Other_symmetric, Says, HasLinkTo, LinkState, Pending as Is_pending, State, state_of, HasSymmetricWith, HasAddressOn, linked_addresses, symmetric_addresses, said_addresses, contains_head, contains_flat_map_cases, contains_flat_map, contains_at, place_of, contains_cases, contains_tail, same_some}
use Rattle.mesh_atoms.specs.declared.hello.LinkStatus.TheVariants.{Lost as Down}
use Rattle.mesh_atoms.specs.declared.tuples.LinkState.TheVariants.{Lost as Is_lost, Symmetric as Is_symmetric, Heard as Is_heard}
use Rattle.mesh_hello.proofs.SayingLemmas.Parts.{IsStatus, not_symmetric}
use Rattle.mesh_hello.proofs.SayingLemmas.Whose.{Linked, Near, Gone, whose}

-- Lists in general

key_given : {K V : Type 0} (xs : List (K × V)) (k : K) → Contains (keys_of xs) k → (v : V) × Contains xs (k, v)
key_given [] k (n, lt, at) = absurd (omega arith)
key_given {K} {V} (x ∷ xs) k w = elim (contains_cases x.0 (keys_of xs) k w) [
  | inl e ↦ let P : K → Type 0 = λ q. Contains (x ∷ xs) (q, x.1) in (x.1, subst P e (contains_head x xs))
  | inr later ↦ let (v, in') = key_given xs k later in (v, contains_tail x xs (k, v) in')
]

key_gives : {K V : Type 0} (xs : List (K × V)) (k : K) (v : V) → Contains xs (k, v) → Contains (keys_of xs) k
key_gives [] k v (n, lt, at) = absurd (omega arith)
key_gives {K} {V} (x ∷ xs) k v w = elim (contains_cases x xs (k, v) w) [
  | inl e ↦ subst (λ (q : K). Contains (x.0 ∷ keys_of xs) q) (ap (λ (q : K × V). q.0) e) (contains_head x.0 (keys_of xs))
  | inr later ↦ contains_tail x.0 (keys_of xs) k (key_gives xs k v later)
]

-- The addresses of one tuple

linked_not_pending : (l : Link) (a : Addr4) (pending : Bool) → l.pending ≡ pending → Contains (cond pending [] l.addrs) a → (l.pending ≡ false) × Contains l.addrs a
linked_not_pending l a pending is h4 = grind (arith, common_steps)

linked_so : (l : Link) (a : Addr4) (pending : Bool) → l.pending ≡ pending → (l.pending ≡ true → ⊥) → Contains l.addrs a → Contains (cond pending [] l.addrs) a
linked_so l a pending is not has = grind (arith, common_steps)

symmetric_given : (n : Neighbour) (a : Addr4) (symmetric : Bool) → n.symmetric ≡ symmetric → Contains (cond symmetric n.addrs []) a → IsTrue n.symmetric × Contains n.addrs a
symmetric_given n a symmetric is has = grind (arith, common_steps)

symmetric_so : (n : Neighbour) (a : Addr4) (symmetric : Bool) → n.symmetric ≡ symmetric → IsTrue n.symmetric → Contains n.addrs a → Contains (cond symmetric n.addrs []) a
symmetric_so n a symmetric is so has = grind (arith, common_steps)

-- a state that is another
abbrev is_pending : LinkState → Bool
is_pending Is_pending = true
is_pending state = false

not_pending : {state : LinkState} → is_pending state ≡ false → state ≡ Is_pending → ⊥
not_pending other h = false≢true (sym other ∙ ap is_pending h)

pending_state : (l : Link) (now : ℕ) → l.pending ≡ true → state_of l now ≡ Is_pending
pending_state l now is = rw is refl

not_pending_state : (l : Link) (now : ℕ) → l.pending ≡ false → state_of l now ≡ Is_pending → ⊥
not_pending_state l now is h = grind (arith, common_steps, nat_lt, not_pending)

-- The addresses of a router

module _ (s : State) (i now : ℕ) (a : Addr4) (links : Base LinkKey Link) (at : slice_get s.bases.neighbourhood.links i ≡ Some links) where
  abbrev mine : List Addr4
  mine = flat_map (λ (face : Interface). face.addrs) s.settings.interfaces

  abbrev linked : List Addr4
  linked = flat_map (λ (e : LinkKey × (Link × ℕ)). linked_addresses e.1.0) links

  abbrev near : List Addr4
  near = flat_map (λ (e : Addr4 × (Neighbour × ℕ)). symmetric_addresses e.1.0) s.bases.neighbourhood.neighbours

  abbrev gone : List Addr4
  gone = keys_of s.bases.neighbourhood.losts

  abbrev told : List Addr4
  told = said_addresses s.settings links s.bases.neighbourhood.neighbours s.bases.neighbourhood.losts

  -- What is said is of an address of the list

  own_in : (j : ℕ) → HasAddressOn s.settings j a → Contains told a
  own_in j (face, there, has) =
      Contains-append_right gone (mine ++ (linked ++ near)) a
      (Contains-append_left mine (linked ++ near) a (contains_flat_map (λ (f : Interface). f.addrs) s.settings.interfaces face a (contains_at s.settings.interfaces j face there) has))

  link_in : (state : LinkState) (l : Link) → (state ≡ Is_pending → ⊥) → HasLinkTo s i now a state l → Contains told a
  link_in state l not (key, (base, there, (until, stands)), has, is) =
      let P : Base LinkKey Link → Type 0 = λ b. Contains b (key, (l, until)) in
      Contains-append_right gone (mine ++ (linked ++ near)) a
      (Contains-append_right mine (linked ++ near) a
      (Contains-append_left linked near a
      (contains_flat_map (λ (e : LinkKey × (Link × ℕ)). linked_addresses e.1.0) links (key, (l, until)) a (subst P (same_some there at) stands)
      (linked_so l a l.pending refl (λ p. not (sym is ∙ pending_state l now p)) has))))

  near_in : (o : Addr4) (n : Neighbour) → HasSymmetricWith s a o n → Contains told a
  near_in o n (((until, stands), is), has) =
      Contains-append_right gone (mine ++ (linked ++ near)) a
      (Contains-append_right mine (linked ++ near) a
      (Contains-append_right linked near a
      (contains_flat_map (λ (e : Addr4 × (Neighbour × ℕ)). symmetric_addresses e.1.0) s.bases.neighbourhood.neighbours (o, (n, until)) a stands
      (symmetric_so n a n.symmetric refl is has))))

  gone_in : (lost : Lost) → Has s.bases.neighbourhood.losts a lost → Contains told a
  gone_in lost h1 = grind (arith, common_steps, Contains-append_left, key_gives)

  pub told_all : (part : Part) → Says s i now a part → Contains told a
  told_all part w = elim (whose s i now a part w) [
    | inl (local, (j, on)) ↦ own_in j on
    | inr (Linked state link not to) ↦ link_in state link not to
    | inr (Near o n has) ↦ near_in o n has
    | inr (Gone lost has) ↦ gone_in lost has
  ]

  -- Of an address of the list something is said

  abbrev Somewhat : Type 0
  Somewhat = (part : Part) × Says s i now a part

  own_said : Contains mine a → Somewhat
  own_said w =
      let (face, stands, has) = contains_flat_map_cases (λ (f : Interface). f.addrs) s.settings.interfaces a w in
      let (j, _, there) = place_of s.settings.interfaces face stands in
      elim (cases_eq j i) [
        | inl e ↦ let P : ℕ → Type 0 = λ k. HasAddressOn s.settings k a in (This_if, subst P e (face, there, has))
        | inr ne ↦ (Other_if, (j, ne, (face, there, has)))
      ]

  link_said : Contains linked a → Somewhat
  link_said w =
      let (e, stands, has) = contains_flat_map_cases (λ (x : LinkKey × (Link × ℕ)). linked_addresses x.1.0) links a w in
      let (is, has') = linked_not_pending e.1.0 a e.1.0.pending refl has in
      by_state e has' (not_pending_state e.1.0 now is) stands (state_of e.1.0 now) refl where
        by_state : (e : LinkKey × (Link × ℕ)) → Contains e.1.0.addrs a → (state_of e.1.0 now ≡ Is_pending → ⊥) → Contains links e → (state : LinkState) → state_of e.1.0 now ≡ state → Somewhat
        by_state e has not stands Is_pending is = absurd (not is)
        by_state e has not stands Is_lost is = (Link_lost, (e.1.0, (e.0, (links, at, (e.1.1, stands)), has, is)))
        by_state e has not stands Is_symmetric is = (Link_symmetric, (e.1.0, (e.0, (links, at, (e.1.1, stands)), has, is)))
        by_state e has not stands Is_heard is = (Link_heard, (e.1.0, (e.0, (links, at, (e.1.1, stands)), has, is)))

  near_said : (link : Option (LinkKey × (Link × ℕ))) (status : Option LinkStatus) → IsStatus s i now a link status → Contains near a → Somewhat
  near_said link status is w =
      let (e, stands, has) = contains_flat_map_cases (λ (x : Addr4 × (Neighbour × ℕ)). symmetric_addresses x.1.0) s.bases.neighbourhood.neighbours a w in
      let (so, has') = symmetric_given e.1.0 a e.1.0.symmetric refl has in
      let with' : HasSymmetricWith s a e.0 e.1.0 = (((e.1.1, stands), so), has') in
      by_status status is e with' where
        by_status : (status : Option LinkStatus) → IsStatus s i now a link status → (e : Addr4 × (Neighbour × ℕ)) → HasSymmetricWith s a e.0 e.1.0 → Somewhat
        by_status (Some Symmetric) is e with' = let (f, _, to) = is.told Symmetric refl in (Link_symmetric, (f.1.0, to))
        by_status None is e with' = (Other_symmetric, ((e.0, e.1.0, with'), λ w. not_symmetric refl (is.all Symmetric w.0 w.1).0))
        by_status (Some Down) is e with' = (Other_symmetric, ((e.0, e.1.0, with'), λ w. not_symmetric refl (is.all Symmetric w.0 w.1).0))
        by_status (Some Heard) is e with' = (Other_symmetric, ((e.0, e.1.0, with'), λ w. not_symmetric refl (is.all Symmetric w.0 w.1).0))

  gone_said : Contains gone a → Somewhat
  gone_said w = let (v, stands) = key_given s.bases.neighbourhood.losts a w in (Other_lost, (v.0, (v.1, stands)))

  pub told_some : (link : Option (LinkKey × (Link × ℕ))) (status : Option LinkStatus) → IsStatus s i now a link status → Contains told a → Somewhat
  told_some link status is w = elim (Contains-append_cases gone (mine ++ (linked ++ near)) a w) [
    | inl g ↦ gone_said g
    | inr x ↦ elim (Contains-append_cases mine (linked ++ near) a x) [
      | inl m ↦ own_said m
      | inr y ↦ elim (Contains-append_cases linked near a y) [ inl l ↦ link_said l | inr n ↦ near_said link status is n ]
    ]
  ]
