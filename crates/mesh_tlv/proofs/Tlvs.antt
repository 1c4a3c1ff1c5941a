-- The two kinds of TLV, each with its reader.
use Rattle.mesh_tlv.proofs.Common.{common_steps, ◌≡◌, ℕ, ◌<◌, false, bit_and, List, length, refl, sym, ap, ◌∙◌, arith, and_zero_l, has, meets_bind, AddrTlvFields, indexed, unindexed, FirstFaultAt, tlv_of_at, tlv_at, addr_tlv_at, SpellsTlvOf, SpellsTlv, SpellsAddrTlv, TlvFault}
use Rattle.std.proofs.lemmas.Nat.{and_assoc}
use Rattle.mesh_tlv.proofs.Items.{IsReader, Took}
use Rattle.mesh_tlv.proofs.Takes.{tlv_of_takes}
use Rattle.mesh_tlv.proofs.Again.{tlv_of_again, fault_again}

some_tlv : (barred count : ℕ) (tlv : AddrTlvFields) (bytes : List ℕ) → SpellsTlvOf barred count tlv bytes → 0 < length bytes
some_tlv barred count tlv bytes h = omega (arith, ap length h.whole)

pub tlv_of_reader : (barred count : ℕ) → 0 < count → IsReader (tlv_of_at barred count) (SpellsTlvOf barred count) (TlvFault barred count)
tlv_of_reader barred count pos = record {
  takes = λ s at end lt fits. tlv_of_takes barred count s at end pos lt fits;
  again = λ s at end tlv bytes rest le fits h e. tlv_of_again barred count s at end tlv bytes rest le fits h e;
  fault_again = λ s at end distance reason le fits h. fault_again barred count s at end le fits distance reason h;
  some = some_tlv barred count;
}

pub addr_tlv_reader : (count : ℕ) → 0 < count → IsReader (addr_tlv_at count) (SpellsAddrTlv count) (TlvFault 0 count)
addr_tlv_reader count pos = tlv_of_reader 0 count pos

-- none of the flags that a packet or message TLV doesn't take
no_flag : (flags flag : ℕ) → bit_and 100 flag ≡ flag → bit_and flags 100 ≡ 0 → has flags flag ≡ false
no_flag flags flag part none =
    let zero_is : bit_and flags flag ≡ 0 = ap (λ (n : ℕ). bit_and flags n) (sym part) ∙ sym (and_assoc flag flags 100) ∙ ap (λ (n : ℕ). bit_and n flag) none ∙ and_zero_l flag in
    rw zero_is refl

-- a TLV without index flags and multivalue, of one address, covers that address
unindexed_is : (tlv : AddrTlvFields) (bytes : List ℕ) → SpellsTlvOf 100 1 tlv bytes → SpellsTlv (unindexed tlv) bytes
unindexed_is tlv bytes h = grind (arith, common_steps, no_flag)

pub tlv_reader : IsReader tlv_at SpellsTlv (TlvFault 100 1)
unfolding tlv_at
tlv_reader = record {
  takes = λ s at end lt fits. meets_bind (tlv_of_at 100 1 s at end) _ _ (Took s at end SpellsTlv) _ (FirstFaultAt (TlvFault 100 1) s at end) (tlv_of_takes 100 1 s at end one lt fits) (λ e h. h) (λ tlv t. (t.0, unindexed_is tlv.0 t.0 t.1, t.2));
  again = λ s at end tlv bytes rest le fits h e. rw (tlv_of_again 100 1 s at end (indexed tlv) bytes rest le fits h e) refl;
  fault_again = λ s at end distance reason le fits h. rw (fault_again 100 1 s at end le fits distance reason h) refl;
  some = λ tlv bytes h. some_tlv 100 1 (indexed tlv) bytes h;
} where
  one : 0 < 1
  one = omega arith
