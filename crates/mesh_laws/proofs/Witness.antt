-- Two routers that hear each other are a settled network: the premises of the law of settled routes can be met.
use Rattle.mesh_laws.proofs.Common.{common_steps, ◌≡◌, ℕ, ◌⊎◌, inl, inr, refl, sym, ◌∙◌, subst, arith, [], slice_get, Some, Addr4, Metric, RouterSettings, host, Leads, AddressOf, At, State, HasAddressOn, Sound, sound_scenario, IsSettledNetwork, HasRow, TwoRoutersSettle, contains_head as here}
use Rattle.mesh_laws.proofs.TwoRouters.{one, settings, arc, scenario, route, state, states, address_on}
use Rattle.mesh_laws.proofs.TwoRoutersSettled.{Side, settled_at, turned, routers_of}
use Rattle.mesh_laws.proofs.TwoRoutersSettled.{joins}
use Rattle.mesh_laws.proofs.TwoRoutersSound.{sound}

zero_one : ◌≡◌ {A = ℕ} 0 1 → ⊥
zero_one e = absurd (omega arith)

leads : (x i y j : ℕ) (m : Metric) → Leads scenario x i y j m → (i ≡ 0) × (j ≡ 0) × (m ≡ one) × (((x ≡ 0) × (y ≡ 1)) ⊎ ((x ≡ 1) × (y ≡ 0)))
leads x i y j m way = grind (arith, common_steps)

state_at : (x : ℕ) (p : State) → slice_get states x ≡ Some p → ((x ≡ 0) × (p ≡ state 0 1)) ⊎ ((x ≡ 1) × (p ≡ state 1 0))
state_at x p e = grind (arith, common_steps)

router_at : (x : ℕ) (r : RouterSettings) → slice_get scenario.routers x ≡ Some r → ((x ≡ 0) × (r ≡ settings 0)) ⊎ ((x ≡ 1) × (r ≡ settings 1))
router_at x r e = grind (arith, common_steps)

settings_are : (x : ℕ) (r : RouterSettings) → slice_get scenario.routers x ≡ Some r → r ≡ settings x
settings_are x r at = elim (router_at x r at) [
  | inl e ↦ (let P : ℕ → Type 0 = λ b. r ≡ settings b in subst P (sym e.0) e.1)
  | inr e ↦ (let P : ℕ → Type 0 = λ b. r ≡ settings b in subst P (sym e.0) e.1)
]

side : Side 0 1
side = record {
  sx = record { is = refl };
  sy = record { is = refl };
  rx = refl;
  ry = refl;
  out = (arc 0 1, (0, omega arith, refl), refl, refl, refl, refl, refl);
  home = (arc 1 0, (1, omega arith, refl), refl, refl, refl, refl, refl);
  ne = zero_one;
  from_x = λ i z j m way. (let (a, b, c, d) = leads 0 i z j m way in
      (a, elim d [ inl e ↦ e.1 | inr e ↦ absurd (zero_one e.0) ], b, c));
  from_y = λ i z j m way. (let (a, b, c, d) = leads 1 i z j m way in
      (a, elim d [ inl e ↦ absurd (zero_one (sym e.0)) | inr e ↦ e.1 ], b, c));
  at_y = λ q at. elim (state_at 1 q at.is) [ inl e ↦ absurd (zero_one (sym e.0)) | inr e ↦ e.1 ];
  at_x = λ q at. elim (state_at 0 q at.is) [ inl e ↦ e.1 | inr e ↦ absurd (zero_one e.0) ];
  routers = λ w r is. elim (router_at w r is) [ inl e ↦ inl e.0 | inr e ↦ inr e.0 ];
}

pub settled_pair : IsSettledNetwork scenario states 5
settled_pair = record {
  scenario = sound_scenario scenario;
  routers = record {
    settings = routers_of;
    all = λ x r at. elim (router_at x r at) [
      | inl e ↦ (state 0 1, record { is = (let P : ℕ → Type 0 = λ b. slice_get states b ≡ Some (state 0 1) in subst P (sym e.0) refl) })
      | inr e ↦ (state 1 0, record { is = (let P : ℕ → Type 0 = λ b. slice_get states b ≡ Some (state 1 0) in subst P (sym e.0) refl) })
    ];
  };
  sound = λ x p at. (let P : State → Type 0 = λ b. Sound b in elim (state_at x p at.is) [
    | inl e ↦ subst P (sym e.1) (sound 0 1 zero_one)
    | inr e ↦ subst P (sym e.1) (sound 1 0 (λ f. zero_one (sym f)))
  ]);
  moment = λ x p at. (let P : State → Type 0 = λ b. b.last ≡ 5 in elim (state_at x p at.is) [
    | inl e ↦ subst P (sym e.1) refl
    | inr e ↦ subst P (sym e.1) refl
  ]);
  settled = λ x p at. elim (state_at x p at.is) [
    | inl e ↦ rw (e.0, e.1) (settled_at side)
    | inr e ↦ rw (e.0, e.1) (settled_at (turned side))
  ];
}

-- each has a row of the other's address
row_of_other : (x : ℕ) (p : State) → At states x p → (y : ℕ) (a : Addr4) → AddressOf scenario y a → (x ≡ y → ⊥) → (c : ℕ) × HasRow p (host a) c
row_of_other x p at y a of_y ne =
    let (r, is, (j, on)) = of_y in
    let P : RouterSettings → Type 0 = λ b. HasAddressOn b j a in
    let (_, same) = address_on y j a (subst P (settings_are y r is) on) in
    let Q : Addr4 → Type 0 = λ b. (c : ℕ) × HasRow p (host b) c in
    subst Q (sym same) (elim (state_at x p at.is) [
      | inl e ↦ elim (router_at y r is) [
        | inl f ↦ absurd (ne (e.0 ∙ sym f.0))
        | inr f ↦ rw (e.1, f.0) (1, (route 0 1, here _ [], refl, refl))
      ]
      | inr e ↦ elim (router_at y r is) [
        | inl f ↦ rw (e.1, f.0) (1, (route 1 0, here _ [], refl, refl))
        | inr f ↦ absurd (ne (e.0 ∙ sym f.0))
      ]
    ])

pub two_settle : TwoRoutersSettle
two_settle = (scenario, states, 5, settled_pair, refl, (0, 0, one, one, joins side), row_of_other)
