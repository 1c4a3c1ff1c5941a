use Rattle.mesh_wire.proofs.Common.{List, ℕ, IfOk-weaker, fields_of_message, LeastForm, IsSoleMessage, WritesHello, WritesLeastHello, alone}
use Rattle.mesh_wire.proofs.HelloWritten.{fits, encodable, written, written_least, back}
use Rattle.mesh_wire.proofs.write.write_hello.Goals as goal

pub alone-requires-clause-encodable : goal.alone-requires-clause-encodable
alone-requires-clause-encodable c = let (values, has, h) = c.in_ok-message.ensures in encodable c.args.hello.now values (fields_of_message c.in_ok-message.message) h has c.args.hello.now.ascending c.requires.sender c.requires.whole

pub alone-requires-clause-fits : goal.alone-requires-clause-fits
alone-requires-clause-fits c = let (values, has, h) = c.in_ok-message.ensures in fits c.args.hello.now values (fields_of_message c.in_ok-message.message) h has c.args.hello.now.ascending c.requires.sender c.requires.whole c.requires.few

pub returns-clause-writes : goal.returns-clause-writes
returns-clause-writes c =
    let (values, has, h) = c.in_ok-message.ensures in
    let m = fields_of_message c.in_ok-message.message in
    IfOk-weaker c.alone.result (λ (bytes : List ℕ). IsSoleMessage m bytes × LeastForm (alone m) bytes) (WritesHello c.args.hello.now) (λ bytes is. written c.args.hello.now values m h has c.args.hello.now.ascending c.requires.sender c.requires.whole bytes is.0) c.alone.ensures

pub returns-clause-least : goal.returns-clause-least
returns-clause-least c =
    let (values, has, h) = c.in_ok-message.ensures in
    let m = fields_of_message c.in_ok-message.message in
    IfOk-weaker c.alone.result (λ (bytes : List ℕ). IsSoleMessage m bytes × LeastForm (alone m) bytes) (WritesLeastHello c.args.hello.now) (λ bytes is. written_least c.args.hello.now values m h has c.args.hello.now.ascending c.requires.sender c.requires.whole bytes is.0 is.1) c.alone.ensures

pub returns-clause-back : goal.returns-clause-back
returns-clause-back c =
    let (values, has, h) = c.in_ok-message.ensures in
    let m = fields_of_message c.in_ok-message.message in
    IfOk-weaker c.alone.result (λ (bytes : List ℕ). IsSoleMessage m bytes × LeastForm (alone m) bytes) _ (λ bytes is. back c.args.hello.now values m h has c.args.hello.now.ascending c.requires.sender c.requires.whole bytes is.0) c.alone.ensures
