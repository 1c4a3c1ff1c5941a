use Rattle.mesh_wire.proofs.Common.{◌≡◌, ◌+◌, arith, ap, List, subst, ◌∙◌, sym, map, drop, AddrTlv, addr_fields, take_rest, leading, Adds, LaysFirst}
use Rattle.mesh_wire.proofs.RunLaws.{adds_none, adds_run, adds_skip, adds_all}
use Rattle.mesh_wire.proofs.runs.put_runs.Goals.{then-first-end+in_ok-push, else-first-end}
use Rattle.mesh_wire.proofs.runs.put_runs.Goals as goal

pub loop-first-init : goal.loop-first-init
loop-first-init c = adds_none c.args.tlvs.now c.args.column c.args.lines.now

pub loop-first-preserved : goal.loop-first-preserved
loop-first-preserved c =
    let lines = c.args.lines.now in
    let first = c.loop-first.first in
    let n = c.leading.result in
    let is : leading c.args.column (drop first lines) ≡ n = sym (ap (leading c.args.column) (take_rest lines first)) ∙ sym c.leading.ensures.count in
    elim c.if-first-end.branch [
      | then-first-end+in_ok-push w ↦
          adds_run c.args.tlvs.now c.loop-first.tlvs c.if-first-end.tlvs w.run_of.result c.args.column lines first n (omega (arith, c.loop-first-test.true)) c.requires.room is (omega (arith, w.if-first-end.true))
          w.run_of.ensures (w.tlvs-is ∙ w.in_ok-push.ensures.ok) c.loop-first.invariant
      | else-first-end w ↦
          subst (λ (tlvs : List AddrTlv). Adds (LaysFirst c.args.column lines (first + n + 1)) (map addr_fields c.args.tlvs.now) (map addr_fields tlvs)) (sym w.tlvs-is) (adds_skip c.args.tlvs.now c.loop-first.tlvs c.args.column lines first n is (omega (arith, w.if-first-end.false)) c.loop-first.invariant)
    ]

pub returns : goal.returns
returns c = adds_all (map addr_fields c.args.tlvs.now) (map addr_fields c.loop-first.tlvs) c.args.column c.args.lines.now c.loop-first.first c.loop-first-test.false c.loop-first.invariant
