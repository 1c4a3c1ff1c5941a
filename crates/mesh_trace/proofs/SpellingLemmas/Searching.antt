-- The search for the row of an address.
use Rattle.mesh_trace.proofs.Common.{◌≡◌, ◌≢◌, ℕ, ◌+◌, inl, inr, sym, ◌∙◌, subst, arith, List, Ok, Err, slice_index_or, Contains, AllPairs, cases_lt, searchable_from_sorted, NetAddr, HelloRow, IsBefore, net_cmp}
use Rattle.std.specs.List.Sorted.{IsSortedBy, IsBinarySearchResult}
use Rattle.std.specs.Ordering.{is_lt}
use Rattle.std.specs.declared.cmp.Ordering.TheVariants.{Less, Equal, Greater}
use Rattle.std.proofs.lemmas.Cmp.{tied_itself}
use Rattle.mesh_atoms.proofs.NetOrder.{net_total, net_exact}
use Rattle.mesh_routes.proofs.HopsLemmas.Searching.{not_less}

module _ (rows : List HelloRow) (pairs : AllPairs (λ (r t : HelloRow). IsBefore r.addr t.addr) rows) (net : NetAddr) where
  sorted : IsSortedBy (λ (a b : HelloRow). is_lt (net_cmp a.addr b.addr)) rows
  sorted k d from to = not_less (slice_index_or rows k d).addr (slice_index_or rows (k + 1) d).addr (pairs k (k + 1) d (omega arith) to)

  -- where the search ends at a row, it is that of the address
  pub found : (k : ℕ) → IsBinarySearchResult (λ (y : HelloRow). net_cmp y.addr net) rows (Ok k) → (d : HelloRow) → (slice_index_or rows k d).addr ≡ net
  found k h d = net_exact (slice_index_or rows k d).addr net (h d)

  -- else no row is
  pub absent : (i : ℕ) → IsBinarySearchResult (λ (y : HelloRow). net_cmp y.addr net) rows (Err i) → (r : HelloRow) → Contains rows r → r.addr ≢ net
  absent i h r (k, l, is) e =
      let parts = h (searchable_from_sorted net_total (λ (y : HelloRow). y.addr) rows net sorted) in
      let same : net_cmp r.addr net ≡ Equal = subst (λ (n : NetAddr). net_cmp r.addr n ≡ Equal) e (tied_itself net_total r.addr) in
      elim (cases_lt k i) [
        | inl less ↦
            let below : net_cmp (slice_index_or rows k r).addr net ≡ Less = parts.0 k r (omega arith) less in
            let mine : net_cmp r.addr net ≡ Less = subst (λ (x : HelloRow). net_cmp x.addr net ≡ Less) is below in
            let b : Less ≡ Equal = sym mine ∙ same in
            absurd (cc)
        | inr more ↦
            let above : net_cmp (slice_index_or rows k r).addr net ≡ Greater = parts.1 k r more l in
            let mine : net_cmp r.addr net ≡ Greater = subst (λ (x : HelloRow). net_cmp x.addr net ≡ Greater) is above in
            let b : Greater ≡ Equal = sym mine ∙ same in
            absurd (cc)
      ]
