use Rattle.mesh_trace.proofs.Common.{◌≡◌, ℕ, List, true, ap, subst, sym, arith, slice_index_or, has}
use Rattle.mesh_trace.proofs.SpellingLemmas.Flags.{two_items}
use Rattle.mesh_trace.proofs.spelling.tc.has_metric.Goals as goal

pub returns-in-len2 : goal.returns-in-len2
returns-in-len2 c =
    let octets = c.args.octets.now in
    let (low, is) = two_items octets (omega (arith, c.in-len2.len_at_least, c.in-len2.len_below)) in (
      λ set. (slice_index_or octets 0 0, low, is, set),
      λ flag.
          let (high, below, same, set) = flag in
          let first : slice_index_or octets 0 0 ≡ high = ap (λ (l : List ℕ). slice_index_or l 0 0) same in
          subst (λ (n : ℕ). has n 16 ≡ true) (sym first) set,
    )
