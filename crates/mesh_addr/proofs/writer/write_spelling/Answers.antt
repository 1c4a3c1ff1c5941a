use Rattle.mesh_addr.proofs.Common.{on_err_weaker, Grew}
use Rattle.mesh_addr.proofs.Outcomes.{grew_on}
use Rattle.mesh_addr.proofs.writer.write_spelling.Goals as goal

pub returns-clause-err : goal.returns-clause-err
returns-clause-err c =
    let old = c.args.out.now in
    let one : Grew old c.push.new.self = (_, c.in_ok-push.ensures.ok) in
    let two : Grew old c.push-2.new.self = grew_on old c.push.new.self c.push-2.new.self one (_, c.in_ok-push-2.ensures.ok) in
    let head : Grew old c.write_head.new.out = grew_on old c.push-2.new.self c.write_head.new.out two (_, c.in_ok-write_head.ensures.ok) in
    let tail : Grew old c.write_tail.new.out = grew_on old c.write_head.new.out c.write_tail.new.out head (_, c.in_ok-write_tail.ensures.ok) in
    let mids : Grew old c.write_mids.new.out = grew_on old c.write_tail.new.out c.write_mids.new.out tail (_, c.in_ok-write_mids.ensures.ok) in
    on_err_weaker {P = Grew c.write_mids.new.out c.write_prefixes.new.out} {Q = Grew old c.write_prefixes.new.out} c.write_prefixes.result (grew_on old c.write_mids.new.out c.write_prefixes.new.out mids) c.write_prefixes.ensures.err
