-- What of a neighbourhood stays the same but for moments.
use Rattle.std.specs.Prelude.{◌≡◌, ℕ, Option, Some, None, option_map, cond, Bool}
use Rattle.mesh_atoms.specs.declared.codes.metric.Metric.{Metric}
use Rattle.mesh_atoms.specs.declared.tuples.Link.{Link}
use Rattle.mesh_atoms.specs.declared.tuples.LinkKey.{LinkKey}
use Rattle.mesh_atoms.specs.Base.{Base, find, base_of, addr_eq, two_hop_eq}
use Rattle.mesh_atoms.specs.State.{Neighbourhood, is_symmetric, link_at}

-- at each key a tuple stands with the same record as before, or none does as before; moments may differ
abbrev pub SameTuples : {K V : Type 0} → (K → K → Bool) → Base K V → Base K V → Type 0
SameTuples {K} eq old new = (q : K) → option_map (λ e. e.0) (find eq new q) ≡ option_map (λ e. e.0) (find eq old q)

-- the metric at which a link leads to its neighbour, where it is SYMMETRIC and the metric is known
abbrev pub way_at : ℕ → Option (Link × ℕ) → Option Metric
way_at now None = None
way_at now (Some e) = cond (is_symmetric e.0 now) e.0.link_out None

-- a neighbourhood has at now the neighbours and 2-hop tuples that another had at last, whatever the moments until which they stand, and
-- the same SYMMETRIC links lead to neighbours at the same known metrics; nothing is said of other links and of lost neighbours
pub record SameNear (old : Neighbourhood) (last : ℕ) (new : Neighbourhood) (now : ℕ) : Type 0 where
  pub neighbours : SameTuples addr_eq old.neighbours new.neighbours
  pub two_hops : (i : ℕ) → SameTuples two_hop_eq (base_of old.two_hops i) (base_of new.two_hops i)
  pub ways : (i : ℕ) (key : LinkKey) → way_at now (link_at new i key) ≡ way_at last (link_at old i key)
