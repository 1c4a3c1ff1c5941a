use Rattle.mesh_trace.proofs.Common.{arith, leb-true, le-leb}
use Rattle.mesh_trace.proofs.SpellingLemmas.Flags.{metric_read}
use Rattle.mesh_trace.proofs.spelling.hello.is_read_of_other.Goals as goal

pub returns-in-len2 : goal.returns-in-len2
returns-in-len2 c =
    let octets = c.args.octets.now in
    let read = metric_read c.args.kind octets c.in-7.is (omega (arith, c.in-len2.len_at_least, c.in-len2.len_below)) (omega (arith, c.type_inv.octets 0)) in
    (λ yes. read.0 (leb-true 16 _ yes), λ is. le-leb 16 _ (read.1 is))
