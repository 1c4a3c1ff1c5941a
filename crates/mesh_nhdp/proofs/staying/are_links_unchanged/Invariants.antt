use Rattle.mesh_nhdp.proofs.Common.{ℕ, ◌<◌, base_of, rule_of, AllStay}
use Rattle.mesh_nhdp.proofs.staying.are_links_unchanged.Given as goal

abbrev pub invariant-loop-i : goal.invariant-loop-i
invariant-loop-i g l = (k : ℕ) → k < l.i → AllStay (rule_of l.settings k) l.settings.times.link_hold l.last l.now (base_of l.sets-inside.links.items k)
