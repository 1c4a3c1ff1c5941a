use Rattle.mesh_report.proofs.Common.{◌≡◌, ◌++◌, List, ℕ, refl, ap, ◌∙◌, fields_of_message, message_text, two_appended as two}
use Rattle.mesh_report.proofs.Joined.{behind}
use Rattle.mesh_report.proofs.packet.put_message.Goals as goal

pub returns-clause-ok : goal.returns-clause-ok
returns-clause-ok c =
    let old : List ℕ = c.args.out.now ++ c.args.room.now.line in
    let parts : List ℕ = message_text c.args.size (fields_of_message c.args.message.now) in
    let read = c.in_ok-put_reading.ensures.text in
    let last : c.as_slice.result.now ≡ read.0 = c.as_slice.ensures ∙ read.1 ∙ ap (λ (l : List ℕ). l ++ read.0) c.clear.ensures in
    let room : c.make_room.new.out ++ c.make_room.new.line ≡ old ++ parts = c.in_ok-make_room.ensures.ok ∙ c.in_ok-put_parts.ensures.ok in
    let put = behind c.make_room.new.out c.make_room.new.line c.as_slice.result.now c.put.ensures.text ∙ ap (λ (l : List ℕ). (c.make_room.new.out ++ c.make_room.new.line) ++ l) last in
    (parts ++ read.0, two old parts read.0 room put, (read.0, read.2, refl))
