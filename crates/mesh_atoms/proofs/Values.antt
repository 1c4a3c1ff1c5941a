-- Addresses, metrics, tuples and the order of nodes.
use Rattle.mesh_atoms.proofs.Common.{common_steps, addr_eq, host, net_eq, IsAtMost, IsBefore, HasAddressOn, IsOriginator, Addr4, NetAddr, Interface, Contains, List, Some, [], ap, arith, inl, inr, refl, slice_get, subst, true, ℕ, ◌∷◌, ◌≡◌, ◌⊎◌, ◌↔◌, cases_eq, eq-eqb}
use Rattle.mesh_atoms.proofs.Lists.{contains_cases, contains_none, contains_tail}
use Rattle.mesh_atoms.proofs.Options.{same_some}
use Rattle.mesh_atoms.specs.declared.settings.RouterSettings.{RouterSettings}

-- addresses of one number are one
pub same_addr : (a b : Addr4) → a.0 ≡ b.0 → a ≡ b
same_addr a b e = ap (λ (n : ℕ). record { 0 = n }) e

pub same_host : (a b : Addr4) → host a ≡ host b → a ≡ b
same_host a b e = ap (λ (n : NetAddr). n.addr) e

pub net_itself : (a b : NetAddr) → a ≡ b → net_eq a b ≡ true
net_itself a b e = rw (eq-eqb a.addr.0 b.addr.0 (ap (λ (n : NetAddr). n.addr.0) e), eq-eqb a.prefix b.prefix (ap (λ (n : NetAddr). n.prefix) e)) refl

pub before_trans : (a b c : NetAddr) → IsBefore a b → IsBefore b c → IsBefore a c
before_trans a b c f g = grind (arith, common_steps)

pub not_before_itself : (a b : NetAddr) → a ≡ b → IsBefore a b → ⊥
not_before_itself a b e h3 = grind (arith, common_steps)

pub one_originator : (r : RouterSettings) (a b : Addr4) → IsOriginator r a → IsOriginator r b → a ≡ b
one_originator r a b v w = grind (arith, common_steps, same_some)

pub addr_itself : (a b : Addr4) → a ≡ b → addr_eq a b ≡ true
addr_itself a b e = eq-eqb a.0 b.0 (ap (λ (x : Addr4). x.0) e)

pub same_address : (a b : Addr4) → (a ≡ b) ⊎ (a ≡ b → ⊥)
same_address a b = grind (arith, common_steps, cases_eq)

-- the address is in the list, or it isn't
pub contains_or_not : (xs : List Addr4) (a : Addr4) → Contains xs a ⊎ (Contains xs a → ⊥)
contains_or_not [] a = inr (contains_none a)
contains_or_not (x ∷ xs) a = elim (same_address x a) [
  | inl e ↦ inl (0, omega arith, e)
  | inr other ↦ elim (contains_or_not xs a) [
    | inl later ↦ inl (contains_tail x xs a later)
    | inr none ↦ inr (λ has. elim (contains_cases x xs a has) [ inl e ↦ other e | inr later ↦ none later ])
  ]
]

pub at_most_of_before : (a b : NetAddr) → IsBefore a b → IsAtMost a b
at_most_of_before a b before = elim before [ inl less ↦ inl less | inr (same, less) ↦ inr (same, omega arith) ]

pub at_most_itself : (a b : NetAddr) → a ≡ b → IsAtMost a b
at_most_itself a b e = subst (λ (x : NetAddr). IsAtMost a x) e (inr (refl, omega arith))

pub on_interface : (settings : RouterSettings) (i : ℕ) (face : Interface) → slice_get settings.interfaces i ≡ Some face → (a : Addr4) → Contains face.addrs a ↔ HasAddressOn settings i a
on_interface settings i face at a = (λ w. (face, at, w), λ h. subst (λ (f : Interface). Contains f.addrs a) (same_some h.1 at) h.2)
