-- What is kept of the values that are said of one address, value by value.
use Rattle.std.specs.Prelude.{ℕ, List, [], ◌∷◌, length, Option, Some, None, Bool, false, not, ◌||◌, ◌==◌, nat_eq, if◌then◌else◌}
use Rattle.std.specs.Option.{is_none}
use Rattle.mesh_atoms.specs.declared.codes.metric.Metric.{Metric}
use Rattle.mesh_atoms.specs.Reading.{has}
use Rattle.mesh_atoms.specs.declared.tlv_type.TheConstants.{LINK_METRIC}
use Rattle.mesh_wire.specs.declared.singles.Single.{Single}
use Rattle.mesh_wire.specs.declared.singles.Single.TheVariants.{Absent}
use Rattle.mesh_wire.specs.declared.octets.OctetKind.{OctetKind}
use Rattle.mesh_wire.specs.declared.octets.ByKind.{ByKind}
use Rattle.mesh_wire.specs.declared.octets.Octets.{Octets}
use Rattle.mesh_wire.specs.declared.parts.MetricParts.{MetricParts}
use Rattle.mesh_wire.specs.declared.parts.RowParts.{RowParts}
use Rattle.mesh_wire.specs.Metrics.{MetricKind, Link_in, Link_out, Near_in, Near_out, metric_in}
use Rattle.mesh_wire.specs.OctetKinds.{type_of, is_value, at, by_kind}
use Rattle.mesh_wire.specs.Singles.{also_some}

-- ---- values of one octet

-- the octet of a value of the type
abbrev pub octet_in : OctetKind → List ℕ → Option ℕ
octet_in kind (n ∷ []) = if is_value kind n then Some n else None
octet_in kind octets = None

-- whether a value sets the flag, by itself or beside the other one
abbrev pub is_flag_set : ℕ → List ℕ → Bool
is_flag_set flag (n ∷ []) = n == flag || n == 3
is_flag_set flag octets = false

-- one value more of the type
abbrev pub octets_also : OctetKind → List ℕ → Octets → Octets
octets_also kind octets o = record {
  wrong = o.wrong || is_none (octet_in kind octets);
  one = also_some nat_eq o.one (octet_in kind octets);
  first = o.first || is_flag_set 1 octets;
  second = o.second || is_flag_set 2 octets;
}

-- one value more, if it is of the type
abbrev pub octets_if : ℕ → List ℕ → OctetKind → Octets → Octets
octets_if type octets kind o = if type == type_of kind then octets_also kind octets o else o

-- nothing is said
abbrev pub no_octets : ByKind Octets
no_octets = by_kind (λ kind. record { wrong = false; one = Absent; first = false; second = false })

-- one value more, whatever its type
abbrev pub take_octets : ℕ → List ℕ → ByKind Octets → ByKind Octets
take_octets type octets by = by_kind (λ kind. octets_if type octets kind (at kind by))

-- ---- metrics

-- whether metrics have one code
abbrev pub has_same_code : Metric → Metric → Bool
has_same_code a b = a.code == b.code

-- the metric that a value shows of the kind with the flag
abbrev pub shown_in : ℕ → List ℕ → Option Metric
shown_in flag (high ∷ low ∷ []) = if has high flag then Some (metric_in high low) else None
shown_in flag octets = None

-- whether a value is not of so many octets
abbrev pub has_other_length : ℕ → List ℕ → Bool
has_other_length n octets = not (length octets == n)

-- what is kept of the kind
abbrev pub metric_at : MetricKind → MetricParts → Single Metric
metric_at Link_in m = m.link_in
metric_at Link_out m = m.link_out
metric_at Near_in m = m.near_in
metric_at Near_out m = m.near_out

-- one value more
abbrev pub metrics_also : List ℕ → MetricParts → MetricParts
metrics_also octets m = record {
  wrong = m.wrong || has_other_length 2 octets;
  link_in = also_some has_same_code m.link_in (shown_in 128 octets);
  link_out = also_some has_same_code m.link_out (shown_in 64 octets);
  near_in = also_some has_same_code m.near_in (shown_in 32 octets);
  near_out = also_some has_same_code m.near_out (shown_in 16 octets);
}

-- ---- all that is kept

-- nothing is said
abbrev pub no_parts : RowParts
no_parts = record {
  octets = no_octets;
  metrics = record { wrong = false; link_in = Absent; link_out = Absent; near_in = Absent; near_out = Absent };
}

-- one value more, of a type without extension
abbrev pub take_part : ℕ → List ℕ → RowParts → RowParts
take_part type octets r = record {
  octets = take_octets type octets r.octets;
  metrics = if type == LINK_METRIC then metrics_also octets r.metrics else r.metrics;
}
