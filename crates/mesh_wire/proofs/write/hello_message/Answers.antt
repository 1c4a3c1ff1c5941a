use Rattle.mesh_wire.proofs.Common.{refl, ap, subst, ◌∙◌, List, map, Bool, take, slice_range, fields_of_block, AddressRecord, HasHelloValues, heading_of, AreBlocks}
use Rattle.mesh_wire.proofs.write.hello_message.Goals as goal

pub returns : goal.returns
returns c =
    let values = c.args.values.now in (
      values,
      subst (λ (lines : List AddressRecord). HasHelloValues c.args.hello.now lines values) c.requires.lines c.requires.values,
      record {
        kind = refl;
        width = refl;
        originator = c.whole_if_some.ensures;
        limit = refl;
        count = refl;
        sequence = refl;
        tlvs = c.in_ok-tlvs.ensures ∙ ap (λ (b : Bool). heading_of (take 1 values) (slice_range values 1 3) b 7 0) c.is_some.ensures;
        blocks = subst (λ (lines : List AddressRecord). AreBlocks lines (map fields_of_block c.in_ok-blocks.blocks)) c.requires.lines c.in_ok-blocks.ensures;
      },
    )
