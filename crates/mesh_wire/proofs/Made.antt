-- Rows that are made of what is kept, one by one.
use Rattle.mesh_wire.proofs.Common.{◌≡◌, ℕ, ◌<◌, sym, ap, subst, ◌∙◌, arith, List, length, map, Contains, slice_index_or, AllPairs, length-map, get_or-map, NetAddr, IsBefore, contains_map, contains_map_cases, MessageFields, AddressParts, no_parts, HoldsAddress, HasValue, AreRows}
use Rattle.mesh_wire.proofs.Kept.{AreTold}
use Rattle.mesh_wire.proofs.Slots.{RowIs}

module _ {Row : Type 0} (row_of : AddressParts → Row) (addr_of : Row → NetAddr) (same : (t : AddressParts) → addr_of (row_of t) ≡ t.net) where
  ascending_made : (told : List AddressParts) → AllPairs (λ (a b : AddressParts). IsBefore a.net b.net) told → AllPairs (λ (a b : Row). IsBefore (addr_of a) (addr_of b)) (map row_of told)
  ascending_made told up i j d lt less =
      let long : length (map row_of told) ≡ length told = length-map told row_of in
      let e : AddressParts = record { net = addr_of d; parts = no_parts } in
      let at : (k : ℕ) → k < length told → addr_of (slice_index_or (map row_of told) k d) ≡ (slice_index_or told k e).net = λ k l. ap addr_of (get_or-map row_of told k e d l) ∙ same (slice_index_or told k e) in
      let below : j < length told = omega (arith, long, less) in
      subst (λ (n : NetAddr). IsBefore n (addr_of (slice_index_or (map row_of told) j d))) (sym (at i (omega (arith, lt, below))))
      (subst (λ (n : NetAddr). IsBefore (slice_index_or told i e).net n) (sym (at j below)) (up i j e lt below))

  -- where each is the row that the message says, they are its rows
  pub rows_made : (m : MessageFields) (IsRow : Row → Type 0) (told : List AddressParts) → AreTold m told → ((t : AddressParts) → Contains told t → RowIs (HasValue m t.net) t.parts → IsRow (row_of t)) → AreRows m addr_of IsRow (map row_of told)
  rows_made m IsRow told are read = record {
    ascending = ascending_made told are.ascending;
    each = λ r has.
        let (t, there, is) = contains_map_cases row_of told r has in
        let (holds, kept) = are.each t there in
        (subst (HoldsAddress m) (sym (same t) ∙ ap addr_of is) holds, subst IsRow is (read t there kept));
    all = λ net has. let (t, there, is) = are.all net has in (row_of t, contains_map row_of told t there, same t ∙ is);
  }
