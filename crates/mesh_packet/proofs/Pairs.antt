-- An address block and the TLVs of its addresses: read, spelled and refused as its two parts are.
use Rattle.mesh_packet.proofs.Common.{◌≡◌, ℕ, ◌+◌, ◌-◌, ◌<◌, ◌≤◌, List, ◌++◌, length, Ok, refl, sym, ap, subst, ◌∙◌, arith, MatchResult, slice_range, length-append, common_steps, Refusal, refuse, meets_bind, Takes, takes_both, takes_range, Stands, stands_first, stands_next, behind, FirstFaultAt, SpellsAddrTlv, AddrTlvBlockFault, TlvFault, addr_tlv_at, block_at, IsReader, Took, block_takes, block_again, block_refuses, addr_tlv_reader, BlockFields, SpellsPair, PairFault, in_addrs, in_addr_tlvs, pair_at}
use Rattle.mesh_addr.specs.Reading as addresses_read
use Rattle.mesh_addr.proofs.Taking as address_laws
use Rattle.mesh_addr.proofs.ReadAgain as address_back
use Rattle.mesh_addr.proofs.Refusing as address_faults

module _ (width : ℕ) where
  pair_takes : (s : List ℕ) (at end : ℕ) → at < end → end ≤ length s → MatchResult (pair_at width s at end) (Took s at end (SpellsPair width)) (FirstFaultAt (PairFault width) s at end)
  unfolding pair_at
  pair_takes s at end lt fits =
      let P = Took s at end (SpellsPair width) in
      let Q = FirstFaultAt (PairFault width) s at end in
      meets_bind (addresses_read.block_at s at end width) _ (address_laws.IsBlock width s at end) P (address_laws.IsFault width s at end) Q (address_laws.block_takes width s at end fits)
      (λ e h. (h.0, ap (λ (r : Refusal). r.place) h.3, subst (λ (n : ℕ). PairFault width (slice_range s at end) h.0 n) (sym (ap (λ (r : Refusal). r.reason) h.3)) (in_addrs h.0 h.1 h.2)))
      (λ a t1.
      let some : 0 < length a.0 = t1.1.some in
      let tlv_reader = addr_tlv_reader (length a.0) some in
      meets_bind (block_at (addr_tlv_at (length a.0)) s a.1 end) _ _ P _ Q (block_takes (addr_tlv_at (length a.0)) (SpellsAddrTlv (length a.0)) (TlvFault 0 (length a.0)) tlv_reader s a.1 end t1.2.within fits)
      (λ e h. (length t1.0 + h.0, omega (arith, h.1, t1.2.len), in_addr_tlvs a.0 t1.0 (slice_range s a.1 end) h.0 e.reason t1.1 t1.2.parts h.2))
      (λ b t2.
      let stop : a.1 + (b.1 - a.1) ≡ b.1 = omega (arith, t2.0) in
      let rest : Takes s a.1 (slice_range s a.1 b.1) b.1 end = subst (λ (k : ℕ). Takes s a.1 (slice_range s a.1 k) k end) stop (takes_range s a.1 (b.1 - a.1) end (omega (arith, stop, t2.1)) fits) in (
        t1.0 ++ slice_range s a.1 b.1,
        record { addrs = t1.0; tlvs = slice_range s a.1 b.1; width_is = refl; addrs_is = t1.1; tlvs_is = t2.2; whole = refl },
        takes_both s at t1.0 a.1 (slice_range s a.1 b.1) b.1 end t1.2 rest,
      )))

  pair_again : (s : List ℕ) (at end : ℕ) (x : BlockFields) (bytes rest : List ℕ) → at ≤ end → end ≤ length s → SpellsPair width x bytes → slice_range s at end ≡ bytes ++ rest → pair_at width s at end ≡ Ok (x, at + length bytes)
  unfolding pair_at
  pair_again s at end x bytes rest le fits h e =
      let stands : Stands s at (h.addrs ++ h.tlvs) rest end = record { parts = e ∙ ap (λ (l : List ℕ). l ++ rest) h.whole; at_end = le; fits = fits } in
      let next = stands_next s at h.addrs h.tlvs rest end stands in
      let place : at + length h.addrs + length h.tlvs ≡ at + length bytes = omega (arith, ap length h.whole, length-append h.addrs h.tlvs) in
      rw (
        address_back.block_again s at width x.addrs h.addrs (h.tlvs ++ rest) end h.addrs_is (stands_first s at h.addrs h.tlvs rest end stands),
        block_again (addr_tlv_at (length x.addrs)) (SpellsAddrTlv (length x.addrs)) (TlvFault 0 (length x.addrs)) (addr_tlv_reader (length x.addrs) h.addrs_is.some) s (at + length h.addrs) end x.tlvs h.tlvs rest next.at_end fits h.tlvs_is next.parts,
        place,
      ) (ap (λ (w : ℕ). Ok (record { width = w; addrs = x.addrs; tlvs = x.tlvs }, at + length bytes)) (sym h.width_is))

  pair_fault : (s : List ℕ) (at end distance reason : ℕ) → at ≤ end → end ≤ length s → PairFault width (slice_range s at end) distance reason → pair_at width s at end ≡ refuse (at + distance) reason
  unfolding pair_at
  pair_fault s at end distance reason le fits (in_addrs place why f) = rw (address_faults.block_fault s end fits width at place why le f) refl
  pair_fault s at end distance reason le fits (in_addr_tlvs addrs text rest place why h e f) =
      let stands : Stands s at text rest end = record { parts = e; at_end = le; fits = fits } in
      let next = behind s at text rest end stands in
      let sum : at + length text + place ≡ at + (length text + place) = omega arith in
      rw (
        address_back.block_again s at width addrs text rest end h stands,
        block_refuses (addr_tlv_at (length addrs)) (SpellsAddrTlv (length addrs)) (TlvFault 0 (length addrs)) (addr_tlv_reader (length addrs) h.some) s (at + length text) end (record { place = at + length text + place; reason = why }) (omega (arith, next.1)) fits (place, refl, subst (λ (l : List ℕ). AddrTlvBlockFault (length addrs) l place why) (sym next.0) f),
        sum,
      ) refl

  some_pair : (x : BlockFields) (bytes : List ℕ) → SpellsPair width x bytes → 0 < length bytes
  some_pair x bytes h = grind (arith, common_steps, length-append)

  pub pair_reader : IsReader (pair_at width) (SpellsPair width) (PairFault width)
  pair_reader = record { takes = pair_takes; again = pair_again; fault_again = pair_fault; some = some_pair }
