use Rattle.mesh_nhdp.proofs.Common.{rules, subst, List, LinkKey, DropsEnded}
use Rattle.mesh_nhdp.proofs.interfaces.change_on.Goals as goal
use Rattle.mesh_nhdp.proofs.interfaces.change_on.Goals.{in-Expiry+in_ok-before-in-Expiry+in_ok-admit_on-in-Expiry, in-Hearing+in_ok-hear_here-in-Hearing}

pub returns : goal.returns
returns g c = elim c.match-change.branch [
  | in-Expiry+in_ok-before-in-Expiry+in_ok-admit_on-in-Expiry w ↦
      rw (w.in-Expiry.is, w.links-is, w.two_hops-is) (λ face at. record {
        distinct_links = w.expire.ensures.distinct;
        distinct_two_hops = rw (← w.two_hops-is) c.keys_are_distinct.ensures;
        links = (w.admit_on.new.links, w.in_ok-admit_on-in-Expiry.ensures face at, w.expire.ensures.expired);
        two_hops = (
          w.expire-in-Expiry.new.self,
          w.in_ok-before-in-Expiry.before.items,
          w.expire-in-Expiry.ensures.expired,
          w.in_ok-before-in-Expiry.ensures,
          subst (λ (ks : List LinkKey). DropsEnded ks w.expire.new.self w.in-Expiry.expiry.now w.expire-in-Expiry.new.self w.drop_ended.new.two_hops) w.deref.ensures.value w.drop_ended.ensures.dropped,
        );
      })
  | in-Hearing+in_ok-hear_here-in-Hearing w ↦ rw (w.in-Hearing.is, w.links-is, w.two_hops-is) (λ least at. search rules)
]
