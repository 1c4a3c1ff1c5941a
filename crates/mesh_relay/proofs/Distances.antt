-- Equal distances.
use Rattle.mesh_relay.proofs.Common.{Contains, List, inl, inr, subst, ◌≡◌, ℕ, ◌≤◌, ◌↔◌, Option, Some, None, refl, ap, arith, sym, Addr4, Near, Far, NeighbourGraph, IsDistance, IsAsCheap, HasSameDistance, IsWilling, IsRelay, Covers, HasDistinctIds, some_equal, none_is_some}
use Rattle.mesh_relay.specs.Laws.{KeepsDistances}

equal_from : (l m e f : ℕ) → l ≤ e → e ≤ m → m ≤ f → f ≤ l → l ≡ m
equal_from l m e f p q r s = omega arith

through : (l m c : ℕ) → l ≡ m → m ≤ c → l ≤ c
through l m c e h = omega arith

through_back : (l m c : ℕ) → l ≡ m → l ≤ c → m ≤ c
through_back l m c e h = omega arith

pub tells : (g : NeighbourGraph) (A B : Near → Type 0) (y : Addr4) (a b : Option ℕ) → IsDistance g A y a → IsDistance g B y b → (HasSameDistance g A B y ↔ (a ≡ b))
tells g A B y None None here there = (λ h. refl, λ e. (λ c o. absurd (there c o), λ c o. absurd (here c o)))
tells g A B y None (Some m) here there = (λ h. absurd (let w = h.0 m there.0 in here w.0 w.1), λ e. none_is_some e)
tells g A B y (Some l) None here there = (λ h. absurd (let w = h.1 l here.0 in there w.0 w.1), λ e. none_is_some (sym e))
tells g A B y (Some l) (Some m) here there = (
  λ h.
      let w = h.0 m there.0 in
      let v = h.1 l here.0 in
      ap (λ (n : ℕ). Some n) (equal_from l m w.0 v.0 (here.1 w.0 w.1) w.2 (there.1 v.0 v.1) v.2),
  λ e. (λ c o. (l, here.0, through l m c (some_equal l m e) (there.1 c o)), λ c o. (m, there.0, through_back l m c (some_equal l m e) (here.1 c o))),
)

relays_are_willing : (g : NeighbourGraph) (relays : List Addr4) (n : Near) → HasDistinctIds g → Covers g relays → Contains g.near n → Contains relays n.id → IsWilling n
relays_are_willing g relays n distinct covers near relay =
    let m = covers.willing n.id relay in
    subst IsWilling (distinct m.0 n m.1 near m.2) m.3

le-same : (n : ℕ) → n ≤ n
le-same n = omega arith

willing_as_cheap : (g : NeighbourGraph) (relays : List Addr4) (y : Addr4) → HasDistinctIds g → Covers g relays → IsAsCheap g IsWilling (IsRelay relays) y
willing_as_cheap g relays y distinct covers c o = elim o [
  | inl d ↦ (c, inl d, le-same c)
  | inr m ↦ (c, inr (m.0, m.1, relays_are_willing g relays m.0 distinct covers m.1 m.2, m.3, m.4, m.5, m.6, m.7), le-same c)
]

pub covering_keeps : (g : NeighbourGraph) (relays : List Addr4) (f : Far) (a b : Option ℕ) → HasDistinctIds g → Covers g relays → Contains g.far f →
    IsDistance g (IsRelay relays) f.addr a → IsDistance g IsWilling f.addr b → a ≡ b
covering_keeps g relays f a b distinct covers far here there =
    (tells g (IsRelay relays) IsWilling f.addr a b here there).0 (λ c o. covers.as_cheap f c far o, willing_as_cheap g relays f.addr distinct covers)

pub covering_same : (g : NeighbourGraph) (relays : List Addr4) → HasDistinctIds g → Covers g relays ↔ KeepsDistances g relays
covering_same g relays distinct = (
  λ covers. record {
    always = covers.always;
    willing = covers.willing;
    same = λ f far. (λ c o. covers.as_cheap f c far o, willing_as_cheap g relays f.addr distinct covers);
  },
  λ keeps. record { always = keeps.always; willing = keeps.willing; as_cheap = λ f c far o. (keeps.same f far).0 c o },
)
