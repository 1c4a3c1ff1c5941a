use Rattle.mesh_probe.proofs.Common.{refl, ◌∙◌, subst, RouterSettings, IsRoundedUp, IsOriginator}
use Rattle.mesh_probe.proofs.probing.probe_tc.Goals as goal

pub returns : goal.returns
returns g c = record {
  originator = subst (λ (r : RouterSettings). IsOriginator r c.originator.result) c.settings-settings.ensures c.originator.ensures.is;
  sequence = refl;
  ansn = c.ansn.ensures;
  complete = refl;
  validity = subst (λ (r : RouterSettings). IsRoundedUp r.times.topology_hold c.time_at_least.result) c.settings-settings.ensures c.time_at_least.ensures;
  interval = (c.time_at_least-2.result, refl, subst (λ (r : RouterSettings). IsRoundedUp r.times.tc c.time_at_least-2.result) c.settings-settings.ensures c.time_at_least-2.ensures);
  rows = c.from_vec.ensures ∙ (c.in_ok-rows.ensures.items ∙ c.rows.ensures);
}
