-- What can be looked up is there or isn't.
use Rattle.mesh_paths.proofs.Common.{common_steps, ◌≡◌, ℕ, zero, suc, ◌<◌, ◌⊎◌, inl, inr, refl, sym, subst, arith, List, [], ◌∷◌, length, Contains, slice_get, slice_index_or, Some, None, slice_get_cases, Addr4, NetAddr, Link, LinkKey, Attached4, Base, metric_value, SaysLink, Attaches, State, state_of, Scenario, RouterSettings, contains_tail, same_address}
use Rattle.mesh_atoms.specs.declared.tuples.LinkState.{LinkState}
use Rattle.mesh_atoms.specs.declared.tuples.LinkState.TheVariants.{Symmetric as Is_symmetric}
use Rattle.mesh_paths.proofs.Order.{same_node}

-- some element has the property, or none has
pub any_or_none : {A : Type 0} (P : A → Type 0) → ((t : A) → P t ⊎ (P t → ⊥)) → (xs : List A) →
    ((t : A) × Contains xs t × P t) ⊎ ((t : A) → Contains xs t → P t → ⊥)
any_or_none P test [] = inr (λ t c p. absurd (omega (arith, c.1)))
any_or_none {A} P test (x ∷ xs) = elim (test x) [
  | inl p ↦ inl (x, (0, omega arith, refl), p)
  | inr not_x ↦ elim (any_or_none P test xs) [
    | inl found ↦ inl (found.0, contains_tail x xs found.0 found.1, found.2)
    | inr none ↦ inr (λ t c p. rest x xs not_x none t c.0 c.1 c.2 p)
  ]
]
  where
    rest : {A : Type 0} {P : A → Type 0} (x : A) (xs : List A) → (P x → ⊥) → ((t : A) → Contains xs t → P t → ⊥) →
        (t : A) (k : ℕ) → k < length (x ∷ xs) → slice_index_or (x ∷ xs) k t ≡ t → P t → ⊥
    rest {P = P} x xs not_x none t zero l e p = not_x (subst P (sym e) p)
    rest x xs not_x none t (suc k) l e p = none t (k, omega arith, e) p

is_symmetric : (x : LinkState) → (x ≡ Is_symmetric) ⊎ (x ≡ Is_symmetric → ⊥)
is_symmetric x = grind (arith, common_steps)

-- the link has the address and is symmetric
Fit : Addr4 → ℕ → LinkKey × (Link × ℕ) → Type 0
Fit a now t = Contains t.1.0.addrs a × (state_of t.1.0 now ≡ Is_symmetric)

fit : (a : Addr4) (now : ℕ) (t : LinkKey × (Link × ℕ)) → Fit a now t ⊎ (Fit a now t → ⊥)
unfolding Fit
fit a now t =
    let P : Addr4 → Type 0 = λ b. b ≡ a in
    let Q : Addr4 → Type 0 = λ b. Contains t.1.0.addrs b in
    elim (any_or_none P (λ b. same_address b a) t.1.0.addrs) [
      | inl found ↦ elim (is_symmetric (state_of t.1.0 now)) [
        | inl e ↦ inl (subst Q found.2 found.1, e)
        | inr other ↦ inr (λ f. other f.1)
      ]
      | inr none ↦ inr (λ f. none a f.0 refl)
    ]

-- a HELLO shows the address on a symmetric link, or it doesn't
pub shows_link : (s : State) (i now : ℕ) (a : Addr4) → SaysLink s i now a Is_symmetric ⊎ (SaysLink s i now a Is_symmetric → ⊥)
unfolding Fit
shows_link s i now a = elim ((slice_get_cases s.bases.neighbourhood.links i).1) [
  | inl there ↦
      let (base, _, is, _) = there in
      elim (any_or_none (Fit a now) (fit a now) base) [
        | inl found ↦ inl (found.0.1.0, (found.0.0, (base, is, (found.0.1.1, found.1)), found.2.0, found.2.1))
        | inr none ↦ inr (λ shows. none_in base is none shows)
      ]
  | inr past ↦ inr (λ shows. let (link, (key, (other, at, _), _, _)) = shows in let no : slice_get s.bases.neighbourhood.links i ≡ None = past.1 in (cc))
]
  where
    none_in : (base : Base LinkKey Link) → slice_get s.bases.neighbourhood.links i ≡ Some base → ((t : LinkKey × (Link × ℕ)) → Contains base t → Fit a now t → ⊥) →
        SaysLink s i now a Is_symmetric → ⊥
    none_in base is none shows =
        let (link, (key, (other, at, (until, stands)), has, state)) = shows in
        let same : other ≡ base = cc in
        let P : Base LinkKey Link → Type 0 = λ b. Contains b (key, (link, until)) in
        none (key, (link, until)) (subst P same stands) (has, state)

-- a router attaches the network, or it doesn't
pub attaches : (s : Scenario) (x : ℕ) (net : NetAddr) → ((k : ℕ) × Attaches s x net k) ⊎ ((k : ℕ) → Attaches s x net k → ⊥)
attaches s x net = elim ((slice_get_cases s.routers x).1) [
  | inl there ↦
      let (r, _, is, _) = there in
      let P : Attached4 → Type 0 = λ att. att.net ≡ net in
      elim (any_or_none P (λ att. same_node att.net net) r.attached) [
        | inl found ↦ inl (metric_value found.0.metric, (r, is, found.0, found.1, found.2, refl))
        | inr none ↦ inr (λ k att. none_of r is none k att)
      ]
  | inr past ↦ inr (λ k att. let (r, is, _, _, _, _) = att in let no : slice_get s.routers x ≡ None = past.1 in (cc))
]
  where
    none_of : (r : RouterSettings) → slice_get s.routers x ≡ Some r → ((t : Attached4) → Contains r.attached t → t.net ≡ net → ⊥) →
        (k : ℕ) → Attaches s x net k → ⊥
    none_of r is none k att =
        let (q, at, t, stands, e, _) = att in
        let same : q ≡ r = cc in
        let P : RouterSettings → Type 0 = λ b. Contains b.attached t in
        none t (subst P same stands) e
