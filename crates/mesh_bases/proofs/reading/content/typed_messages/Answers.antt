use Rattle.mesh_bases.proofs.Common.{◌≡◌, List, Option, Some, ap, map, ◌∙◌, option_map, slice_get, slice_get-map, item_at, taken_more, fields_of_message}
use Rattle.mesh_packet.specs.declared.packet.Message.{Message}
use Rattle.mesh_bases.proofs.ReadingLemmas.Messages.{read_snoc}
use Rattle.mesh_bases.proofs.reading.content.typed_messages.Goals as goal

pub loop-i-preserved : goal.loop-i-preserved
loop-i-preserved c =
    let all : List Message = c.args.messages.now in
    let m = c.index-messages-i.result in
    let at = item_at all c.loop-i.i m c.loop-i-test.true c.index-messages-i.is in
    let mapped : slice_get (map fields_of_message all) c.loop-i.i ≡ Some (fields_of_message m) = slice_get-map fields_of_message all c.loop-i.i ∙ ap (λ (o : Option Message). option_map fields_of_message o) at in
    rw (taken_more (map fields_of_message all) c.loop-i.i (fields_of_message m) mapped, c.in_ok-push.ensures.ok) (read_snoc _ _ _ _ c.loop-i.invariant c.in_ok-typed_message.ensures)
