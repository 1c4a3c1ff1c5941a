use Rattle.mesh_trace.proofs.Common.{◌≡◌, ℕ, ◌+◌, ◌-◌, ◌<◌, List, sym, ap, subst, ◌∙◌, arith, slice_get, RawAddr, addr_fields, octets_of, value_at}
use Rattle.mesh_wire.proofs.Standing.{covered, get_drop, get_take}
use Rattle.mesh_trace.proofs.spelling.parts.is_addr_tlv_read.Goals as goal

pub returns : goal.returns
returns g c =
    let tlv = addr_fields c.args.tlv.now in
    let addrs = c.args.addrs.now in
    let n = tlv.last + 1 - tlv.first in
    let of : (i : ℕ) → i < n → slice_get c.covered_by.result.now i ≡ slice_get addrs (tlv.first + i) =
    λ i lt. ap (λ (l : List RawAddr). slice_get l i) c.covered_by.ensures ∙ (get_take n _ i lt ∙ get_drop tlv.first addrs i) in (
      λ yes place a net first last at is.
          let i = place - tlv.first in
          let same : tlv.first + i ≡ place = omega (arith, first) in
          subst (λ (k : ℕ). g.L.Looks.reads c.args.looks.now net tlv.kind tlv.ext (octets_of (value_at tlv k))) same
          (c.are_covered_read.ensures.0 yes i a net (of i (omega (arith, first, last)) ∙ ap (slice_get addrs) same ∙ at) is),
      λ all. c.are_covered_read.ensures.1 (λ i a net at is.
          let there = covered addrs tlv.first (tlv.last + 1) i a (sym (ap (λ (l : List RawAddr). slice_get l i) c.covered_by.ensures) ∙ at) in
          all (tlv.first + i) a net (omega arith) (omega (arith, there.0)) there.1 is),
    )
