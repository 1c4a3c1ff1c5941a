use Rattle.mesh_nbrs.proofs.Common.{arith, common_steps, ◌≡◌, Bool, ◌&&◌, Option, Some, eqb, Decides, Metric, TwoHop}
use Rattle.std.specs.Option.{option_eq}
use Rattle.std.proofs.lemmas.Bool.Decides.{Decides-and, Decides-like}
use Rattle.mesh_atoms.proofs.Rows.{metrics, options}
use Rattle.mesh_nbrs.proofs.two_hops.two_hops.is_tuple.Goals as goal

abbrev same_known : Option Metric → Option Metric → Bool
same_known = option_eq (λ (m n : Metric). eqb m.code n.code)

abbrev same_tuple : TwoHop → TwoHop → Bool
same_tuple a b = same_known a.metric_in b.metric_in && same_known a.metric_out b.metric_out

known : (a b : Option Metric) → Decides (same_known a b) (a ≡ b)
known = options (λ (m n : Metric). eqb m.code n.code) metrics

tuples : (a b : TwoHop) → Decides (same_tuple a b) (a ≡ b)
tuples a b = grind (arith, common_steps, Decides-like, Decides-and, known)

pub returns : goal.returns
returns c = rw c.eq.ensures (options same_tuple tuples c.args.before (Some c.args.tuple))
