-- Who hears a frame: the ends of the arcs of its interface.
use Rattle.mesh_probe.proofs.Common.{◌≡◌, ◌≢◌, ℕ, ◌<◌, ◌⊎◌, inl, inr, refl, sym, ◌∙◌, ap, subst, arith, List, [], ◌∷◌, Contains, length, Bool, true, false, cond, nat_eq, eq-eqb, eqb-true, and_parts, slice_get_within, RadioArc, Scenario, Joined, Itself, By, arc_leads_to, Sending, is_arc_from, hearers_of, BringsTo, HearsOne, contains_tail as in_tail, contains_cases, contains_cond}

pub hearer : (arcs : List RadioArc) (x i : ℕ) (arc : RadioArc) → Contains arcs arc → arc.from ≡ x → arc.from_iface ≡ i → Contains (hearers_of arcs x i) (arc.to, arc.to_iface)
hearer [] x i arc c from at = absurd (omega (arith, c.1))
hearer (first ∷ arcs) x i arc c from at = elim (contains_cases first arcs arc c) [
  | inl same ↦
      let e : nat_eq first.from x ≡ true = eq-eqb first.from x (ap (λ (a : RadioArc). a.from) same ∙ from) in
      let f : nat_eq first.from_iface i ≡ true = eq-eqb first.from_iface i (ap (λ (a : RadioArc). a.from_iface) same ∙ at) in
      let g : is_arc_from first x i ≡ true = rw (e, f) refl in
      subst (λ (b : Bool). Contains (cond b ((first.to, first.to_iface) ∷ hearers_of arcs x i) (hearers_of arcs x i)) (arc.to, arc.to_iface)) (sym g)
      (subst (λ (a : RadioArc). Contains ((first.to, first.to_iface) ∷ hearers_of arcs x i) (a.to, a.to_iface)) same (0, omega arith, refl))
  | inr later ↦ contains_cond (is_arc_from first x i) (first.to, first.to_iface) (arc.to, arc.to_iface) (hearers_of arcs x i) (hearer arcs x i arc later from at)
]

pub hearer_of : (arcs : List RadioArc) (x i w j : ℕ) → Contains (hearers_of arcs x i) (w, j) → (arc : RadioArc) × Contains arcs arc × (arc.from ≡ x) × (arc.from_iface ≡ i) × (arc.to ≡ w)
hearer_of [] x i w j c = absurd (omega (arith, c.1))
hearer_of (first ∷ arcs) x i w j c = elim (which (is_arc_from first x i) refl (first.to, first.to_iface) (hearers_of arcs x i) (w, j) c) [
  | inl (leads, same) ↦
      let (from, at) = and_parts (nat_eq first.from x) (nat_eq first.from_iface i) leads in
      (first, (0, omega arith, refl), eqb-true first.from x from, eqb-true first.from_iface i at, ap (λ (p : ℕ × ℕ). p.0) same)
  | inr later ↦ let (arc, stands, from, at, to) = hearer_of arcs x i w j later in (arc, in_tail first arcs arc stands, from, at, to)
]
  where
    which : (b : Bool) → is_arc_from first x i ≡ b → (p : ℕ × ℕ) (ps : List (ℕ × ℕ)) (q : ℕ × ℕ) → Contains (cond b (p ∷ ps) ps) q → ((is_arc_from first x i ≡ true) × (p ≡ q)) ⊎ Contains ps q
    which true e p ps q c = elim (contains_cases p ps q c) [ inl same ↦ inl (e, same) | inr later ↦ inr later ]
    which false e p ps q c = inr c

-- an arc from an interface that sends leads to who hears a frame
pub brought : (s : Scenario) (sends : List Sending) (z : ℕ) (arc : RadioArc) → Contains s.arcs arc → BringsTo sends z arc → HearsOne s sends z
brought s sends z arc stands b = (
  record { router = arc.from; iface = arc.from_iface },
  arc.to_iface,
  b.sent,
  subst (λ (w : ℕ). Contains (hearers_of s.arcs arc.from arc.from_iface) (w, arc.to_iface)) b.to (hearer s.arcs arc.from arc.from_iface arc stands refl refl),
)

pub brings : (s : Scenario) (sends : List Sending) (z : ℕ) → HearsOne s sends z → (arc : RadioArc) × Contains s.arcs arc × BringsTo sends z arc
brings s sends z (f, j, sent, hears) =
    let (arc, stands, from, at, to) = hearer_of s.arcs f.router f.iface z j hears in
    let is : f ≡ record { router = arc.from; iface = arc.from_iface } =
    ap (λ (x : ℕ). let t : Sending = record { router = x; iface = f.iface } in t) (sym from)
    ∙ ap (λ (i : ℕ). let t : Sending = record { router = arc.from; iface = i } in t) (sym at) in
    (arc, stands, record { to = to; sent = subst (λ (t : Sending). Contains sends t) is sent })

-- who hears, or is joined with another, is a router of the scenario
pub hears_inside : (s : Scenario) (sends : List Sending) (z : ℕ) → HearsOne s sends z → z < length s.routers
hears_inside s sends z hears =
    let (arc, stands, b) = brings s sends z hears in
    let (q, is, less) = arc_leads_to s arc stands in
    subst (λ (w : ℕ). w < length s.routers) b.to (slice_get_within s.routers arc.to q is)

pub joined_inside : (s : Scenario) (x z : ℕ) → z ≢ x → Joined s x z → z < length s.routers
joined_inside s x z other Itself = absurd (other refl)
joined_inside s x z other (By way (i, j, there, back, joins)) =
    let (arc, stands, _, _, to, _, _) = joins.out in
    let (q, is, less) = arc_leads_to s arc stands in
    subst (λ (w : ℕ). w < length s.routers) to (slice_get_within s.routers arc.to q is)
