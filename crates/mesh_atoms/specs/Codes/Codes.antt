-- Times, metrics and sequence numbers by their codes.
use Rattle.std.specs.Prelude.{ℕ, ◌+◌, ◌-◌, ◌*◌, ◌/◌, ◌%◌, ◌^◌, ◌<◌, ◌≤◌, ◌⊎◌, List, [], ◌∷◌, ◌==◌, nat_lt, if◌then◌else◌}
use Rattle.mesh_atoms.specs.declared.codes.metric.Metric.{Metric}

-- the cost that a metric code stands for (RFC 7181, section 6.2)
abbrev pub cost_of : ℕ → ℕ
cost_of code = (257 + code % 256) * 2 ^ (code / 256) - 256

-- the cost of a link metric
abbrev pub metric_value : Metric → ℕ
metric_value metric = cost_of metric.code

-- the ticks that a time code stands for; code 0 is no time at all (RFC 5497, section 5)
abbrev pub time_value : ℕ → ℕ
time_value code = if code == 0 then 0 else (8 + code % 8) * 2 ^ (code / 8)

-- a time code that is sent: 0 and 255 are not
abbrev pub IsSentCode : ℕ → Type 0
IsSentCode code = (1 ≤ code) × (code ≤ 254)

-- of pairs of a time and a number of hops, and a last time: the time of the first pair that reaches the distance, else the
-- last (RFC 5497, section 6)
abbrev pub time_at_distance : ℕ → List ℕ → ℕ
time_at_distance distance [] = 0
time_at_distance distance (last ∷ []) = time_value last
time_at_distance distance (time ∷ hops ∷ rest) = if nat_lt hops distance then time_at_distance distance rest else time_value time

-- of two sequence numbers of 16 bits, which go round, a is the newer (RFC 7181, section 21)
abbrev pub Newer : ℕ → ℕ → Type 0
Newer a b = ((b < a) × (a - b < 32768)) ⊎ ((a < b) × (32768 < b - a))
