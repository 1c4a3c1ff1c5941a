use Rattle.mesh_nhdp.proofs.Common.{◌≡◌, length, subst, arith, find, two_hop_eq, IsKept, is_symmetric_in, slice_get-get_or}
use Rattle.mesh_nhdp.proofs.Ends.{IsEndedBelow, ended_more, ended_all}
use Rattle.mesh_nhdp.proofs.drops.drop_ended.Goals as goal

pub loop-key-preserved : goal.loop-key-preserved
loop-key-preserved g c q =
    ended_more c.args.keys.now (is_symmetric_in c.args.links.now c.args.now) c.loop-key.key-index _ q.link (slice_get-get_or c.args.keys.now c.loop-key.key-index _ (omega arith)) (find two_hop_eq c.args.two_hops.now q)
    (find two_hop_eq c.loop-key.two_hops q) _ (c.loop-key.invariant q) (c.drop_if_ended.ensures q)

pub returns : goal.returns
returns g c = record {
  dropped = λ q.
      let all : c.loop-key.key-index ≡ length c.args.keys.now = omega arith in
      ended_all c.args.keys.now (is_symmetric_in c.args.links.now c.args.now) q.link (find two_hop_eq c.args.two_hops.now q) (find two_hop_eq c.loop-key.two_hops q)
      (subst (λ n. IsKept (λ t. IsEndedBelow c.args.keys.now (is_symmetric_in c.args.links.now c.args.now) n q.link → ⊥) (find two_hop_eq c.args.two_hops.now q) (find two_hop_eq c.loop-key.two_hops q)) all (c.loop-key.invariant q));
}
