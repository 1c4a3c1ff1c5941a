use Rattle.mesh_trace.proofs.Common.{rules, ℕ, ◌+◌, subst, refl, slice_index_or, IsTrue, [], slice_get-get_or, NetAddr, RawAddr, addr_fields, IsIn, octets_of, value_at}
use Rattle.mesh_trace.proofs.SpellingLemmas.Mapped.{before_more, before_all}
use Rattle.mesh_trace.proofs.spelling.parts.are_covered_read.Goals as goal

pub loop-i-preserved : goal.loop-i-preserved
loop-i-preserved g c =
    let none : RawAddr = record { octets = []; prefix = 0 } in
    let i = c.loop-i.i in
    let a = slice_index_or c.args.covered.now i none in
    let yes : IsTrue c.is_one_read.result = search rules in
    before_more (λ (j : ℕ) (x : RawAddr). (net : NetAddr) → IsIn x net → g.L.Looks.reads c.args.looks.now net c.args.tlv.now.kind c.args.tlv.now.ext (octets_of (value_at (addr_fields c.args.tlv.now) (c.args.tlv.now.first + j))))
    c.args.covered.now i a (slice_get-get_or c.args.covered.now i none c.loop-i-test.true)
    (λ net is. subst (g.L.Looks.reads c.args.looks.now net c.args.tlv.now.kind c.args.tlv.now.ext) c.part_of.ensures (c.is_one_read.ensures.0 yes net is)) c.loop-i.invariant

pub returns : goal.returns
returns g c = (
  λ _ i a net at is. before_all (λ (j : ℕ) (x : RawAddr). (net : NetAddr) → IsIn x net → g.L.Looks.reads c.args.looks.now net c.args.tlv.now.kind c.args.tlv.now.ext (octets_of (value_at (addr_fields c.args.tlv.now) (c.args.tlv.now.first + j))))
      c.args.covered.now c.loop-i.i c.loop-i-test.false c.loop-i.invariant i a at net is,
  λ _. refl,
)
