-- A TC whose addresses are of no known type: the first rule that is broken, and the least address.
use Rattle.mesh_wire.proofs.Common.{common_steps, ◌≡◌, ℕ, ◌≤◌, ◌⊎◌, List, [], ◌∷◌, false, refl, sym, ap, ◌∙◌, arith, lit≤, lit<, Option, Some, None, slice_get, false≢true, NetAddr, IsAtMost, NBR_ADDR_TYPE, RawAddr, IsIn, HoldsAddressAt, HoldsAddress, HasValue, FirstBroken, IsLow, is_value, IsOctetOf, BreaksTc, AddressWidth, NoOriginator, NoSequence, NoValidity, WrongInterval, Content, AddrType, TwoAddrTypes, ShortPrefix, own, own_net, near, unknown, pair, odd_types}
use Rattle.mesh_wire.specs.declared.octets.OctetKind.TheVariants as kinds
use Rattle.mesh_wire.proofs.Examples.{says}

own_at : HoldsAddressAt odd_types pair 1 own_net
own_at = record { address = own; in_message = (0, lit< tt, refl); in_block = refl; is_in = record { prefix = refl; number = refl } }

own_unknown : HasValue odd_types own_net NBR_ADDR_TYPE (4 ∷ [])
own_unknown = says odd_types pair 1 own_net unknown NBR_ADDR_TYPE (4 ∷ []) own_at (0, lit< tt, refl) (lit≤ tt) (lit≤ tt) refl

not_four : (octets : List ℕ) → octets ≡ 4 ∷ [] → IsOctetOf kinds.AddrType octets → ⊥
not_four octets e (octet, is, valid) = (let same : octet ≡ 4 = cc in false≢true (ap (is_value kinds.AddrType) (sym same) ∙ valid))

-- ---- its addresses aren't below 10.0.0.1

one_of_two : (place : ℕ) (address : RawAddr) → slice_get (near ∷ (own ∷ [])) place ≡ Some address → (near ≡ address) ⊎ (own ≡ address)
one_of_two place address e = grind (arith, common_steps)

not_below : (net : NetAddr) (address : RawAddr) → (near ≡ address) ⊎ (own ≡ address) → IsIn address net → IsAtMost own_net net
not_below net address h2 is = grind (arith, common_steps)

at_most : (net : NetAddr) → HoldsAddress odd_types net → IsAtMost own_net net
at_most net h1 = grind (arith, common_steps, pair, not_below, one_of_two)

said_of : (net : NetAddr) (kind : ℕ) (octets : List ℕ) → HasValue odd_types net kind octets → IsAtMost own_net net
said_of net kind octets (value, h, is) = at_most net (h.block, h.place, h.address)

-- ---- the first rule that is broken

first_is : (n : ℕ) (a : Option NetAddr) → BreaksTc odd_types n a → 37 ≤ n
first_is n a (AddressWidth not_four) = absurd (not_four refl)
first_is n a (NoOriginator none) = cc
first_is n a (NoSequence none) = cc
-- at three hops the second time counts
first_is n a (NoValidity none) = absurd (none 49152 ((88 ∷ (2 ∷ (100 ∷ [])), refl, refl, refl), lit< tt))
first_is n a (WrongInterval none) = absurd (none None refl)
first_is n a (Content none) = absurd (none 7 false (record { kind = 8; ext = 1; value = Some (0 ∷ (7 ∷ [])) }, 0, 7, refl, refl, refl, refl))
first_is n a other = lit≤ tt

low : (n : ℕ) (a : Option NetAddr) → BreaksTc odd_types n a → 37 ≤ n → n ≤ 37 → IsLow (Some own_net) a
low n a (AddrType net (octets, said, wrong)) up down = said_of net NBR_ADDR_TYPE octets said
low n a (TwoAddrTypes net (x, y, said, said_y, other)) up down = said_of net NBR_ADDR_TYPE x said
low n a (ShortPrefix net (octets, said) short) up down = said_of net NBR_ADDR_TYPE octets said
low n a other up down = absurd (omega arith)

pub types_broken : FirstBroken (BreaksTc odd_types) 37 (Some own_net)
types_broken = record {
  broken = AddrType own_net (4 ∷ [], own_unknown, not_four (4 ∷ []) refl);
  first = first_is;
  least = λ a breaks. low 37 a breaks (lit≤ tt) (lit≤ tt);
}
