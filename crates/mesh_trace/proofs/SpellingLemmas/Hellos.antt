-- What a reading of a HELLO looks at, by its rows.
use Rattle.mesh_trace.proofs.Common.{arith, ◌≡◌, ℕ, eqb, inl, inr, List, [], ◌∷◌, refl, sym, subst, Option, Some, None, IsSome, ◌≢◌, common_steps, option_map, eqb-true, eqb-false, NetAddr, Hello, LocalIf, MessageFields, TlvFields, HelloIs, local_value, LOCAL_IF, HasPart, HasType, OctetIs, HoldsAddress, Keeps, IsReadOfHelloAddress, WritesHello, IsLocal, LooksHello, TellsOnly, SaysHello}
use Rattle.mesh_wire.specs.HelloRules.{BreaksHello, AddressWidth}
use Rattle.mesh_trace.proofs.SpellingLemmas.OneMessage.{IsSole}

-- a message that keeps the rules has addresses of IPv4
pub four_octets : (width : ℕ) → (width ≢ 4 → ⊥) → width ≡ 4
four_octets width keeps = grind (arith, common_steps, eqb, eqb-true, eqb-false)

pub hello_width : (m : MessageFields) → Keeps (BreaksHello m) → m.width ≡ 4
hello_width m keeps = four_octets m.width (λ not. keeps _ None (AddressWidth not))

module _ (m : MessageFields) (hello : Hello) (is : HelloIs m hello) where
  said : (net : NetAddr) (l : Option LocalIf) → OctetIs m net LOCAL_IF (option_map local_value l) → IsSome l → HasType m net LOCAL_IF
  said net None h some = absurd (cc)
  said net (Some l) h some = (local_value l ∷ [], h)

  shown : (net : NetAddr) (l : Option LocalIf) → OctetIs m net LOCAL_IF (option_map local_value l) → HasType m net LOCAL_IF → IsSome l
  shown net None none (octets, said) = absurd (none octets said)
  shown net (Some l) h has = refl

  type_of_local : (net : NetAddr) → IsLocal hello.rows net → HasType m net LOCAL_IF
  type_of_local net local =
      let row = local.0 in
      subst (λ (n : NetAddr). HasType m n LOCAL_IF) local.2 (said row.addr row.local (is.rows.each row local.1).1.local local.3)

  local_of_type : (net : NetAddr) → HoldsAddress m net → HasType m net LOCAL_IF → IsLocal hello.rows net
  local_of_type net holds has =
      let (row, there, same) = is.rows.all net holds in
      (row, there, same, shown row.addr row.local (is.rows.each row there).1.local (subst (λ (n : NetAddr). HasType m n LOCAL_IF) (sym same) has))

  holds_part : (net : NetAddr) (part : TlvFields) → HasPart m net part → HoldsAddress m net
  holds_part net part p = (p.block, p.place, p.address)

  -- what is said of addresses is what it looks at, by the rows and by the message
  pub parts_by_rows : TellsOnly (LooksHello hello.rows) m → (net : NetAddr) (part : TlvFields) → HasPart m net part → IsReadOfHelloAddress m net part
  parts_by_rows tells net part p =
      let looks = tells net part p in
      record {
        kind = elim looks.1 [
          | inl kind ↦ inl kind
          | inr h ↦ inr (λ has. h.0 (local_of_type net (holds_part net part p) has), h.1)
        ];
        ext = looks.0;
      }

  pub rows_by_parts : ((net : NetAddr) (part : TlvFields) → HasPart m net part → IsReadOfHelloAddress m net part) → TellsOnly (LooksHello hello.rows) m
  rows_by_parts read net part p =
      let r = read net part p in (
        r.ext,
        elim r.kind [
          | inl kind ↦ inl kind
          | inr h ↦ inr (λ local. h.0 (type_of_local net local), h.1)
        ],
      )

-- octets may be sent for the HELLO where they are a packet of one message alone that says it
pub writes_of : (hello : Hello) (bytes : List ℕ) → IsSole (SaysHello hello) bytes → WritesHello hello bytes
writes_of hello bytes (m, packet, says) = grind (arith, common_steps)

pub sole_of : (hello : Hello) (bytes : List ℕ) → WritesHello hello bytes → IsSole (SaysHello hello) bytes
sole_of hello bytes w = grind (arith, common_steps)
