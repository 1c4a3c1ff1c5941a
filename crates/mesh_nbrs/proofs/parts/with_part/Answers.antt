use Rattle.mesh_nbrs.proofs.Common.{Some, None}
use Rattle.mesh_nbrs.proofs.ByAddress.{summary_past, summary_more, part_is}
use Rattle.mesh_nbrs.proofs.parts.with_part.Goals as goal

pub returns-in-Some : goal.returns-in-Some
returns-in-Some c = λ notes addrs are h.
    summary_more notes addrs c.args.addr c.args.so_far.now c.in-Some.part.now c.joined.result (part_is notes c.args.addr (Some c.in-Some.part.now) _ c.in-Some.ensures.value (are c.args.addr)) h c.joined.ensures.symmetric c.joined.ensures.metric_in c.joined.ensures.metric_out c.joined.ensures.until

pub returns-in-None : goal.returns-in-None
returns-in-None c = λ notes addrs are h. summary_past notes addrs c.args.addr c.args.so_far.now (part_is notes c.args.addr None _ c.in-None.ensures.value (are c.args.addr)) h
