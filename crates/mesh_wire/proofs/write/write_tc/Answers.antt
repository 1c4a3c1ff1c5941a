use Rattle.mesh_wire.proofs.Common.{List, ℕ, IfOk-weaker, fields_of_message, LeastForm, IsSoleMessage, WritesTc, WritesLeastTc, alone}
use Rattle.mesh_wire.proofs.TcWritten.{fits, encodable, written, written_least, back}
use Rattle.mesh_wire.proofs.write.write_tc.Goals as goal

pub alone-requires-clause-encodable : goal.alone-requires-clause-encodable
alone-requires-clause-encodable c = let (values, has, h) = c.in_ok-message.ensures in encodable c.args.tc.now c.args.hop_limit c.args.validity.now values (fields_of_message c.in_ok-message.message) h has c.args.tc.now.ascending c.requires.kinds c.requires.whole c.requires.value c.requires.near

pub alone-requires-clause-fits : goal.alone-requires-clause-fits
alone-requires-clause-fits c = let (values, has, h) = c.in_ok-message.ensures in fits c.args.tc.now c.args.hop_limit c.args.validity.now values (fields_of_message c.in_ok-message.message) h has c.args.tc.now.ascending c.requires.kinds c.requires.whole c.requires.value c.requires.near c.requires.few c.requires.short

pub returns-clause-writes : goal.returns-clause-writes
returns-clause-writes c =
    let (values, has, h) = c.in_ok-message.ensures in
    let m = fields_of_message c.in_ok-message.message in
    IfOk-weaker c.alone.result (λ (bytes : List ℕ). IsSoleMessage m bytes × LeastForm (alone m) bytes) (WritesTc c.args.tc.now c.args.hop_limit c.args.validity.now) (λ bytes is. written c.args.tc.now c.args.hop_limit c.args.validity.now values m h has c.args.tc.now.ascending c.requires.kinds c.requires.whole c.requires.value c.requires.near bytes is.0) c.alone.ensures

pub returns-clause-least : goal.returns-clause-least
returns-clause-least c =
    let (values, has, h) = c.in_ok-message.ensures in
    let m = fields_of_message c.in_ok-message.message in
    IfOk-weaker c.alone.result (λ (bytes : List ℕ). IsSoleMessage m bytes × LeastForm (alone m) bytes) (WritesLeastTc c.args.tc.now c.args.hop_limit c.args.validity.now) (λ bytes is. written_least c.args.tc.now c.args.hop_limit c.args.validity.now values m h has c.args.tc.now.ascending c.requires.kinds c.requires.whole c.requires.value c.requires.near bytes is.0 is.1) c.alone.ensures

pub returns-clause-back : goal.returns-clause-back
returns-clause-back c =
    let (values, has, h) = c.in_ok-message.ensures in
    let m = fields_of_message c.in_ok-message.message in
    IfOk-weaker c.alone.result (λ (bytes : List ℕ). IsSoleMessage m bytes × LeastForm (alone m) bytes) _ (λ bytes is. back c.args.tc.now c.args.hop_limit c.args.validity.now values m h has c.args.tc.now.ascending c.requires.kinds c.requires.whole c.requires.value c.requires.near bytes is.0) c.alone.ensures
