-- When values are the same.
use Rattle.mesh_nhdp.proofs.Common.{arith, common_steps, ◌≡◌, ℕ, Bool, ap, eqb, Option, Decides, Addr4, Metric}
use Rattle.std.specs.Option.{option_eq}
use Rattle.std.proofs.lemmas.Bool.Decides.{Decides-eqb}
use Rattle.mesh_atoms.proofs.Rows.{metrics}

pub addrs : (a b : Addr4) → Decides (eqb a.0 b.0) (a ≡ b)
addrs a b = (λ h. ap (λ (n : ℕ). let x : Addr4 = record { 0 = n } in x) ((Decides-eqb a.0 b.0).0 h), λ e. (Decides-eqb a.0 b.0).1 (ap (λ (x : Addr4). x.0) e))

-- metrics that may be unknown
pub known_metrics : (a b : Option Metric) (r : Bool) → r ≡ option_eq (λ (m n : Metric). eqb m.code n.code) a b → Decides r (a ≡ b)
known_metrics a b r is = grind (arith, common_steps, metrics)
