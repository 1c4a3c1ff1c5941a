use Rattle.mesh_expire.proofs.Gone.{all_expired}
use Rattle.mesh_expire.proofs.keyed.expire_keyed.Goals as goal

pub returns-clause-kept : goal.returns-clause-kept
returns-clause-kept g c = all_expired g.K.PartialEq.eq c.args.now _ _ _ c.in_default.ensures.none c.in_default.ensures.fresh c.loop-gone.invariant.live
