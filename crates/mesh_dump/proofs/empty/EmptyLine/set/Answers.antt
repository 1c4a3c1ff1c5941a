use Rattle.mesh_dump.proofs.Common.{◌≡◌, ℕ, ◌-◌, ◌≤◌, length, drop, ◌∙◌, arith, length-decimal-le, length-take-le, length-drop}
use Rattle.mesh_dump.proofs.EmptyLines.{laid}
use Rattle.mesh_dump.proofs.empty.EmptyLine.set.Goals as goal

pub write_digits-at-requires : goal.write_digits-at-requires
write_digits-at-requires c = (omega (arith, length-decimal-le 20 c.args.number (omega arith) (omega (arith, c.ranges.number.fits)) c.ranges.number.fits), omega (arith, c.self.told))

pub overflow_sub-at : goal.overflow_sub-at
overflow_sub-at c = omega (arith, c.write_digits-at.ensures.start, length-decimal-le 20 c.args.number (omega arith) (omega (arith, c.ranges.number.fits)) c.ranges.number.fits)

pub copy_from_slice-requires : goal.copy_from_slice-requires
copy_from_slice-requires c =
    let at : ℕ = c.write_digits-at.result in
    let room : 5 ≤ at = omega (arith, c.write_digits-at.ensures.start, length-decimal-le 20 c.args.number (omega arith) (omega (arith, c.ranges.number.fits)) c.ranges.number.fits) in
    let size : length c.write_digits-at.new.buf ≡ 54 = omega (arith, c.write_digits-at.auto.buf, c.self.told) in
    length-take-le (at - (at - 5)) (drop (at - 5) c.write_digits-at.new.buf) (omega (arith, length-drop (at - 5) c.write_digits-at.new.buf, size, room, c.write_digits-at.ensures.start))
    ∙ omega (arith, room)

pub invariant_of-self : goal.invariant_of-self
invariant_of-self c =
    let at : ℕ = c.write_digits-at.result in
    let room : 5 ≤ at = omega (arith, c.write_digits-at.ensures.start, length-decimal-le 20 c.args.number (omega arith) (omega (arith, c.ranges.number.fits)) c.ranges.number.fits) in
    let size : length c.write_digits-at.new.buf ≡ 54 = omega (arith, c.write_digits-at.auto.buf, c.self.told) in
    laid c.args.number at c.self.inside.text c.write_digits-at.new.buf c.copy_from_slice.new.self c.write_digits-at.ensures.start room size c.self.invariant.behind
    c.write_digits-at.ensures.written c.copy_from_slice.ensures.after
