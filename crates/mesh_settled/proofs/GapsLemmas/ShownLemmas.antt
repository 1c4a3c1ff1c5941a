-- Whether a HELLO shows an address as a relay's is decided.
use Rattle.mesh_settled.proofs.Common.{◌≡◌, ℕ, refl, sym, ◌∙◌, subst, List, Contains, Option, Some, None, Bool, false, slice_get, Decides, IsTrue, ◌&&◌, list_any, false≢true, none-some, Addr4, LinkKey, Base, addr_eq, Says, Flooding, Routing, State, is_symmetric, HasSymmetricWith, Decides-some, Decides-addr, Decides-and, tests_symmetric, same_some}
use Rattle.mesh_atoms.specs.declared.tuples.Link.{Link}
use Rattle.mesh_atoms.specs.declared.tuples.Neighbour.{Neighbour}

-- the property is decided
abbrev pub Decided : Type 0 → Type 0
Decided P = (b : Bool) × Decides b P

as_decided : {P Q : Type 0} → (P → Q) → (Q → P) → Decided P → Decided Q
as_decided there back (b, d) = (b, (λ e. there (d.0 e), λ q. d.1 (back q)))

never_decided : {P : Type 0} → (P → ⊥) → Decided P
never_decided none = (false, (λ e. absurd (false≢true e), λ p. absurd (none p)))

both_decided : {P Q : Type 0} → Decided P → Decided Q → Decided (P × Q)
both_decided (a, d) (b, e) = (a && b, Decides-and a b d e)

flag_decided : (b : Bool) → Decided (IsTrue b)
flag_decided b = (b, (λ e. e, λ e. e))

some_decided : {X : Type 0} (P : X → Type 0) → ((x : X) → Decided (P x)) → (xs : List X) → Decided ((x : X) × Contains xs x × P x)
some_decided P decides xs = (list_any (λ x. (decides x).0) xs, Decides-some (λ x. (decides x).0) P (λ x. (decides x).1) xs)

contains_decided : (xs : List Addr4) (a : Addr4) → Decided (Contains xs a)
contains_decided xs a =
    as_decided (λ w. subst (Contains xs) (sym w.2) w.1) (λ h. (a, h, refl)) (some_decided (λ x. a ≡ x) (λ x. (addr_eq a x, Decides-addr a x)) xs)

-- the address is a symmetric neighbour's that is among the relays
abbrev Chosen : State → List Addr4 → Addr4 → Type 0
Chosen q relays a = (o : Addr4) × (n : Neighbour) × HasSymmetricWith q a o n × Contains relays o

abbrev ByEntry : List Addr4 → Addr4 → Addr4 × (Neighbour × ℕ) → Type 0
ByEntry relays a e = IsTrue e.1.0.symmetric × (Contains e.1.0.addrs a × Contains relays e.0)

chosen_decided : (q : State) (relays : List Addr4) (a : Addr4) → Decided (Chosen q relays a)
chosen_decided q relays a =
    as_decided (λ w. let (e, has, (symmetric, (of_it, relay))) = w in (e.0, e.1.0, (((e.1.1, has), symmetric), of_it), relay)) (λ w. ((w.0, (w.1, w.2.0.0.0)), w.2.0.0.1, (w.2.0.1, (w.2.1, w.3))))
    (some_decided (ByEntry relays a) (λ e. both_decided (flag_decided e.1.0.symmetric) (both_decided (contains_decided e.1.0.addrs a) (contains_decided relays e.0))) q.bases.neighbourhood.neighbours)

pub shows_routing : (q : State) (j now : ℕ) (a : Addr4) → Decided (Says q j now a Routing)
shows_routing q j now a = chosen_decided q q.relays.routing a

-- a symmetric link with the address, of which some address is so
abbrev ByLink : State → List Addr4 → ℕ → Addr4 → LinkKey × (Link × ℕ) → Type 0
ByLink q relays now a e = Contains e.1.0.addrs a × (IsTrue (is_symmetric e.1.0 now) × ((b : Addr4) × Contains e.1.0.addrs b × Chosen q relays b))

link_decided : (q : State) (relays : List Addr4) (now : ℕ) (a : Addr4) (e : LinkKey × (Link × ℕ)) → Decided (ByLink q relays now a e)
link_decided q relays now a e =
    both_decided (contains_decided e.1.0.addrs a) (both_decided (flag_decided (is_symmetric e.1.0 now)) (some_decided (Chosen q relays) (chosen_decided q relays) e.1.0.addrs))

module _ (q : State) (j now : ℕ) (a : Addr4) where
  by_both : (base : Base LinkKey Link) (relays : List Addr4) → slice_get q.bases.neighbourhood.links j ≡ Some base → slice_get q.relays.flooding j ≡ Some relays → Decided (Says q j now a Flooding)
  by_both base relays at has =
      as_decided
      (λ w.
      let (e, there, (of_it, (symmetric, (b, its, (o, n, with, relay))))) = w in
      (e.1.0, (e.0, (base, at, (e.1.1, there)), of_it, (tests_symmetric e.1.0 now).0 symmetric), o, n, b, its, with, relays, has, relay))
      (λ w.
      let (link, (key, (base', at', there), of_it, symmetric), o, n, b, its, with, relays', has', relay) = w in
      let base_is : base' ≡ base = same_some at' at in
      let relays_are : relays' ≡ relays = same_some has' has in
      ((key, (link, there.0)), subst (λ (x : Base LinkKey Link). Contains x (key, (link, there.0))) base_is there.1, (of_it, ((tests_symmetric link now).1 symmetric, (b, its, (o, n, with, subst (λ (x : List Addr4). Contains x o) relays_are relay))))))
      (some_decided (ByLink q relays now a) (link_decided q relays now a) base)

  by_cases : (base : Option (Base LinkKey Link)) (relays : Option (List Addr4)) → slice_get q.bases.neighbourhood.links j ≡ base → slice_get q.relays.flooding j ≡ relays → Decided (Says q j now a Flooding)
  by_cases None relays at has = never_decided (λ w. none-some w.1.1.0 (sym at ∙ w.1.1.1))
  by_cases (Some base) None at has = never_decided (λ w. none-some w.7 (sym has ∙ w.8))
  by_cases (Some base) (Some relays) at has = by_both base relays at has

  pub shows_flooding : Decided (Says q j now a Flooding)
  shows_flooding = by_cases (slice_get q.bases.neighbourhood.links j) (slice_get q.relays.flooding j) refl refl
