-- The rows of a map in the order of networks.
use Rattle.mesh_topo.proofs.Common.{◌≡◌, ℕ, zero, suc, refl, sym, subst, arith, List, [], ◌∷◌, map, slice_index_or, AllPairs, IsStrictlySortedBy, length-map, Less-from_sorted, NetAddr, TcRow, IsBefore, net_cmp, net_less, Offer, row_of}
use Rattle.std.specs.declared.cmp.Ordering.TheVariants.{Less}
use Rattle.std.specs.Map.{keys_of}

dest_at : (es : List (NetAddr × Offer)) (k : ℕ) (d : TcRow) → (slice_index_or (map row_of es) k d).dest ≡ slice_index_or (keys_of es) k d.dest
dest_at [] k d = refl
dest_at (e ∷ es) zero d = refl
dest_at (e ∷ es) (suc k) d = dest_at es k d

pub ascending_rows : (es : List (NetAddr × Offer)) → IsStrictlySortedBy net_cmp (keys_of es) → AllPairs (λ (r t : TcRow). IsBefore r.dest t.dest) (map row_of es)
ascending_rows es sorted i j d lt less =
    let first : net_cmp (slice_index_or (keys_of es) i d.dest) (slice_index_or (keys_of es) j d.dest) ≡ Less = Less-from_sorted net_cmp (keys_of es) i j d.dest sorted lt (omega (arith, less, length-map es row_of, length-map es (λ (e : NetAddr × Offer). e.0))) in
    let one = subst (λ (n : NetAddr). IsBefore n (slice_index_or (keys_of es) j d.dest)) (sym (dest_at es i d)) (net_less (slice_index_or (keys_of es) i d.dest) (slice_index_or (keys_of es) j d.dest) first) in
    subst (λ (n : NetAddr). IsBefore (slice_index_or (map row_of es) i d).dest n) (sym (dest_at es j d)) one
