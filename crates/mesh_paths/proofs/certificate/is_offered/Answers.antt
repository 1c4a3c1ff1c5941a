use Rattle.mesh_paths.proofs.Rows.{carry, offers_reached, reached_offers}
use Rattle.mesh_paths.proofs.certificate.is_offered.Goals as goal

pub returns : goal.returns
returns c = carry c.is_reached.result
    (λ reached. offers_reached c.args.arcs.now c.args.from c.args.rows.now c.args.row.now reached)
    (λ offer. reached_offers c.args.arcs.now c.args.from c.args.rows.now c.args.row.now c.is_start.result c.is_start.ensures c.if-is_start.false offer)
    c.is_reached.ensures
