-- What the HELLO of a router's interface says of an address.
use Rattle.std.specs.Prelude.{◌≡◌, ℕ, ◌↔◌, List, Contains, Option, Some, None, slice_get, IsTrue, Bool, false, cond}
use Rattle.mesh_atoms.specs.declared.addr.Addr4.{Addr4}
use Rattle.mesh_atoms.specs.declared.codes.metric.Metric.{Metric}
use Rattle.mesh_atoms.specs.declared.tuples.LinkKey.{LinkKey}
use Rattle.mesh_atoms.specs.declared.tuples.Link.{Link}
use Rattle.mesh_atoms.specs.declared.tuples.Neighbour.{Neighbour}
use Rattle.mesh_atoms.specs.Base.{Base}
use Rattle.mesh_atoms.specs.Hello.{Says, SaysSymmetric, IsSaid, Flooding, Routing, Near_in, Near_out, Link_in, Link_out}
use Rattle.mesh_atoms.specs.State.{State, is_symmetric, is_heard}
use Rattle.mesh_machine.specs.declared.said.Said.{Said}
use Rattle.mesh_hello.specs.Saying.Said.{IsRelayOf}

-- exactly what the HELLO of interface i at now says of the address to whoever hears it: whether it is shown SYMMETRIC, by
-- LINK_STATUS or OTHER_NEIGHB; the metrics that are taken from it, a neighbour's before a link's; and whether it is a relay's
pub record IsSaidOf (s : State) (i now : ℕ) (a : Addr4) (said : Said) : Type 0 where
  pub symmetric : IsTrue said.symmetric ↔ SaysSymmetric s i now a
  pub metric_in : (m : Option Metric) →
      IsSaid (λ m. Says s i now a (Near_in m)) (λ m. Says s i now a (Link_in m)) m ↔ (m ≡ said.metric_in)
  pub metric_out : (m : Option Metric) →
      IsSaid (λ m. Says s i now a (Near_out m)) (λ m. Says s i now a (Link_out m)) m ↔ (m ≡ said.metric_out)
  pub flooding : IsTrue said.flooding ↔ Says s i now a Flooding
  pub routing : IsTrue said.routing ↔ Says s i now a Routing

-- Out of which tuples it is said

-- whether there is a link, and it is SYMMETRIC
abbrev pub is_link_symmetric : Option (LinkKey × (Link × ℕ)) → ℕ → Bool
is_link_symmetric None now = false
is_link_symmetric (Some e) now = is_symmetric e.1.0 now

-- the incoming metric of a link that is HEARD or SYMMETRIC
abbrev pub link_metric_in : Option (LinkKey × (Link × ℕ)) → ℕ → Option Metric
link_metric_in None now = None
link_metric_in (Some e) now = cond (is_symmetric e.1.0 now) (Some e.1.0.link_in) (cond (is_heard e.1.0 now) (Some e.1.0.link_in) None)

-- the outgoing metric of a link that is SYMMETRIC
abbrev pub link_metric_out : Option (LinkKey × (Link × ℕ)) → ℕ → Option Metric
link_metric_out None now = None
link_metric_out (Some e) now = cond (is_symmetric e.1.0 now) e.1.0.link_out None

-- the metric in of a neighbour (N_in_metric), where it is known
abbrev pub near_metric_in : Option (Addr4 × (Neighbour × ℕ)) → Option Metric
near_metric_in None = None
near_metric_in (Some e) = e.1.0.metric_in

-- its metric out (N_out_metric), where it is known
abbrev pub near_metric_out : Option (Addr4 × (Neighbour × ℕ)) → Option Metric
near_metric_out None = None
near_metric_out (Some e) = e.1.0.metric_out

-- the first of two metrics, or the second where the first is none
abbrev pub or_else : Option Metric → Option Metric → Option Metric
or_else None m = m
or_else (Some n) m = Some n

-- the neighbour is a flooding relay of interface i, and its link there is SYMMETRIC
pub record IsFloodingRelay (flooding : List (List Addr4)) (i : ℕ) (symmetric : Bool) (neighbour : Option (Addr4 × (Neighbour × ℕ))) :
    Type 0 where
  pub list : List Addr4
  pub at : slice_get flooding i ≡ Some list
  pub shown : IsTrue symmetric
  pub relay : IsRelayOf list neighbour
