use Rattle.mesh_nbrs.proofs.Common.{ap, ◌∙◌, Some, owner_of}
use Rattle.mesh_nbrs.proofs.Owning.{others_keep}
use Rattle.mesh_nbrs.proofs.owners.own_all.Goals as goal

pub returns-in_err-own-clause-others : goal.returns-in_err-own-clause-others
returns-in_err-own-clause-others c a unlisted =
    ap (λ l. owner_of l a) c.in_err-own.ensures.err ∙ others_keep c.args.owners.now.entries c.loop-addr.owners.entries c.args.addrs.now c.loop-addr.addr-index (Some c.args.originator) c.loop-addr.invariant a unlisted

pub returns-clause-others : goal.returns-clause-others
returns-clause-others c = others_keep c.args.owners.now.entries c.loop-addr.owners.entries c.args.addrs.now c.loop-addr.addr-index (Some c.args.originator) c.loop-addr.invariant
