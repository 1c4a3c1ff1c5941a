use Rattle.mesh_atoms.proofs.Common.{◌≡◌, ℕ, suc, ◌+◌, ◌-◌, refl, ◌∙◌, arith, length-set}
use Rattle.mesh_atoms.proofs.Digits.{digits_before-none, digits_before-more, room_before, drop-stored, take-stored}
use Rattle.mesh_atoms.proofs.text.put_decimal.Goals as goal

pub loop-left-init : goal.loop-left-init
loop-left-init c = record { size = refl; some = omega arith; within = omega arith; room = omega arith; text = digits_before-none c.args.number }

pub loop-left-preserved : goal.loop-left-preserved
loop-left-preserved c =
    let i = c.loop-left.invariant in
    let at : ℕ = c.loop-left.at in
    let left : ℕ = c.loop-left.left in
    let room = room_before at left c.loop-left-test.true i.room in
    let next : 44 + at ≡ suc (44 + (at - 1)) = omega (arith, room.0) in
    record {
      size = length-set c.loop-left.digits (at - 1) _ ∙ i.size;
      some = omega (arith, room.0);
      within = omega (arith, i.within);
      room = room.1;
      text = rw (drop-stored c.loop-left.digits at _ i.size i.some i.within, ← digits_before-more (44 + (at - 1)) left _ c.loop-left-test.true, ← next) i.text;
    }

pub returns-clause-ok : goal.returns-clause-ok
returns-clause-ok c =
    let i = c.loop-left.invariant in
    let all = take-stored c.loop-left.digits c.loop-left.at c.loop-left.left i.size i.some i.within c.loop-left-test.false in
    rw (all ∙ i.text) at c.append.ensures.ok
