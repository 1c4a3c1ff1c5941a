-- The metrics that a message shows of an address (RFC 7181, section 13.3.2).
use Rattle.std.proofs.Common.{lit<}
use Rattle.std.proofs.lemmas.Nat.{mod_below}
use Rattle.std.specs.Prelude.{◌≡◌, ℕ, ◌+◌, ◌*◌, ◌%◌, ◌⊎◌, ◌≢◌, List, [], ◌∷◌, Option, Some, None, true}
use Rattle.mesh_atoms.specs.declared.addr.NetAddr.{NetAddr}
use Rattle.mesh_atoms.specs.declared.codes.metric.Metric.{Metric}
use Rattle.mesh_atoms.specs.declared.hello.Metrics.{Metrics}
use Rattle.mesh_atoms.specs.Reading.{has}
use Rattle.mesh_atoms.specs.declared.tlv_type.TheConstants.{LINK_METRIC}
use Rattle.mesh_packet.specs.Fields.{MessageFields}
use Rattle.mesh_wire.specs.Rows.{HasValue, HasOtherLength}

-- kinds of metric: of the link or of the neighbour, to the sender or from it
pub data MetricKind : Type 0 where
  Link_in : MetricKind
  Link_out : MetricKind
  Near_in : MetricKind
  Near_out : MetricKind

-- all of them
abbrev pub metric_kinds : List MetricKind
metric_kinds = Link_in ∷ (Link_out ∷ (Near_in ∷ (Near_out ∷ [])))

-- the flag of a kind, in the high octet
abbrev pub flag_of : MetricKind → ℕ
flag_of Link_in = 128
flag_of Link_out = 64
flag_of Near_in = 32
flag_of Near_out = 16

-- the metric whose code is the lower 12 bits of two octets
abbrev pub metric_in : ℕ → ℕ → Metric
metric_in high low = record { code = (256 * high + low) % 4096; in_range = mod_below (256 * high + low) 4096 (lit< tt) }

-- the metric of that kind
abbrev pub metric_of : MetricKind → Metrics → Option Metric
metric_of Link_in m = m.link_in
metric_of Link_out m = m.link_out
metric_of Near_in m = m.near_in
metric_of Near_out m = m.near_out

-- a LINK_METRIC shows that metric of the address: of two octets, four flags for its kinds and 12 bits
abbrev pub ShowsMetric : MessageFields → NetAddr → MetricKind → Metric → Type 0
ShowsMetric message net kind metric =
    (high : ℕ) × (low : ℕ) × HasValue message net LINK_METRIC (high ∷ low ∷ []) × (has high (flag_of kind) ≡ true) × (metric ≡ metric_in high low)

-- the metric of that kind that is shown of the address, or that none is
abbrev pub MetricIs : MessageFields → NetAddr → MetricKind → Option Metric → Type 0
MetricIs message net kind (Some metric) = ShowsMetric message net kind metric
MetricIs message net kind None = (metric : Metric) → ShowsMetric message net kind metric → ⊥

-- two different metrics of one kind
abbrev pub HasTwoMetrics : MessageFields → NetAddr → Type 0
HasTwoMetrics message net =
    (kind : MetricKind) × (a : Metric) × (b : Metric) × ShowsMetric message net kind a × ShowsMetric message net kind b × (a ≢ b)

-- a LINK_METRIC that isn't of two octets, or two metrics of one kind
abbrev pub HasWrongMetric : MessageFields → NetAddr → Type 0
HasWrongMetric message net = HasOtherLength message net LINK_METRIC 2 ⊎ HasTwoMetrics message net
