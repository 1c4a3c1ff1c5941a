use Rattle.mesh_wire.proofs.Common.{◌≡◌, refl, sym, ap, subst, ◌∙◌, List, ℕ, map, Bool, cond, Some, take, is_some, fields_of_block, AddressRecord, HasTcValues, heading_of, AreBlocks}
use Rattle.mesh_wire.proofs.write.tc_message.Goals.{then-tc, else-tc}
use Rattle.mesh_wire.proofs.write.tc_message.Goals as goal

pub returns : goal.returns
returns c =
    let values = c.args.values.now in
    let complete = c.args.tc.now.complete in
    let ext : c.if-tc.ext ≡ cond complete 0 1 = elim c.if-tc.branch [
      | then-tc w ↦ w.ext-is ∙ sym (ap (λ (b : Bool). cond b 0 1) w.if-tc.true)
      | else-tc w ↦ w.ext-is ∙ sym (ap (λ (b : Bool). cond b 0 1) w.if-tc.false)
    ] in (
      values,
      subst (λ (lines : List AddressRecord). HasTcValues c.args.tc.now lines values) c.requires.lines c.requires.values,
      record {
        kind = refl;
        width = refl;
        originator = ap Some c.whole.ensures;
        limit = refl;
        count = refl;
        sequence = refl;
        tlvs = c.in_ok-tlvs.ensures ∙ ap (λ (b : Bool). heading_of c.args.validity.now (take 3 values) b 8 c.if-tc.ext) c.is_some.ensures ∙ ap (λ (n : ℕ). heading_of c.args.validity.now (take 3 values) (is_some c.args.tc.now.interval) 8 n) ext;
        blocks = subst (λ (lines : List AddressRecord). AreBlocks lines (map fields_of_block c.in_ok-blocks.blocks)) c.requires.lines c.in_ok-blocks.ensures;
      },
    )
