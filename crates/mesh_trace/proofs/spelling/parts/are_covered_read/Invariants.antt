use Rattle.mesh_trace.proofs.Common.{◌+◌, ℕ, NetAddr, RawAddr, addr_fields, IsIn, octets_of, value_at}
use Rattle.mesh_trace.proofs.SpellingLemmas.Mapped.{HoldsBefore}
use Rattle.mesh_trace.proofs.spelling.parts.are_covered_read.Given as goal

abbrev pub invariant-loop-i : goal.invariant-loop-i
invariant-loop-i g l =
    HoldsBefore (λ (i : ℕ) (a : RawAddr). (net : NetAddr) → IsIn a net → g.L.Looks.reads l.looks net l.tlv.kind l.tlv.ext (octets_of (value_at (addr_fields l.tlv) (l.tlv.first + i)))) l.covered l.i
