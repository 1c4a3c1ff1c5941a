-- Which rule a row breaks, and the first that rows break.
use Rattle.std.specs.Prelude.{ℕ, List, [], ◌∷◌, Option, Some, None, Bool, ◌||◌, ◌&&◌, nat_lt, if◌then◌else◌}
use Rattle.std.specs.List.{list_any}
use Rattle.mesh_atoms.specs.declared.addr.NetAddr.{NetAddr}
use Rattle.mesh_atoms.specs.declared.hello_rule.TheConstants.{UNDEFINED, TWO_VALUES, PREFIX, METRIC}
use Rattle.mesh_atoms.specs.declared.tc_rule.TheConstants as tc
use Rattle.mesh_wire.specs.declared.collect.AddressParts.{AddressParts}
use Rattle.mesh_wire.specs.declared.octets.OctetKind.{OctetKind}
use Rattle.mesh_wire.specs.declared.octets.ByKind.{ByKind}
use Rattle.mesh_wire.specs.declared.octets.Octets.{Octets}
use Rattle.mesh_wire.specs.declared.parts.RowParts.{RowParts}
use Rattle.mesh_wire.specs.declared.rows.TypedKind.{TypedKind}
use Rattle.mesh_wire.specs.declared.rows.TypedKind.TheVariants as typed
use Rattle.mesh_wire.specs.KeptParts.{metric_at}
use Rattle.mesh_wire.specs.Metrics.{MetricKind, metric_kinds}
use Rattle.mesh_wire.specs.OctetKinds.{statuses, at}
use Rattle.mesh_wire.specs.Singles.{is_conflict, is_said}

-- whether what is kept of a LOCAL_IF, LINK_STATUS or OTHER_NEIGHB passes a test
abbrev pub some_status : (Octets → Bool) → ByKind Octets → Bool
some_status test by = list_any (λ (kind : OctetKind). test (at kind by)) statuses

-- one of undefined value
abbrev pub is_undefined : ByKind Octets → Bool
is_undefined by = some_status (λ (o : Octets). o.wrong) by

-- two values of one
abbrev pub has_two : ByKind Octets → Bool
has_two by = some_status (λ (o : Octets). is_conflict o.one) by

-- one of these
abbrev pub has_status : ByKind Octets → Bool
has_status by = some_status (λ (o : Octets). is_said o.one) by

-- a metric that isn't of two octets, or two codes of one kind
abbrev pub has_wrong_metric : RowParts → Bool
has_wrong_metric r = r.metrics.wrong || list_any (λ (kind : MetricKind). is_conflict (metric_at kind r.metrics)) metric_kinds

-- a NBR_ADDR_TYPE of undefined value, two values of it, or one on a short prefix
abbrev pub has_wrong_type : ℕ → RowParts → Bool
has_wrong_type prefix r = r.octets.addr_type.wrong || (is_conflict r.octets.addr_type.one || (nat_lt prefix 32 && is_said r.octets.addr_type.one))

-- a GATEWAY that isn't one octet, two values of it, or one beside a NBR_ADDR_TYPE
abbrev pub has_wrong_gateway : RowParts → Bool
has_wrong_gateway r = r.octets.gateway.wrong || (is_conflict r.octets.gateway.one || (is_said r.octets.gateway.one && is_said r.octets.addr_type.one))

-- the number of the first test that is passed
abbrev pub first_passed : List (Bool × ℕ) → Option ℕ
first_passed [] = None
first_passed (t ∷ tests) = if t.0 then Some t.1 else first_passed tests

-- the rules on the addresses of a HELLO, and whether a row breaks them
abbrev pub hello_tests : AddressParts → List (Bool × ℕ)
hello_tests t =
    (is_undefined t.parts.octets, UNDEFINED)
    ∷ ((has_two t.parts.octets, TWO_VALUES) ∷ ((nat_lt t.net.prefix 32 && has_status t.parts.octets, PREFIX) ∷ ((has_wrong_metric t.parts, METRIC) ∷ [])))

-- the first that it breaks
abbrev pub hello_rule : AddressParts → Option ℕ
hello_rule t = first_passed (hello_tests t)

-- the same of a TC
abbrev pub tc_tests : AddressParts → List (Bool × ℕ)
tc_tests t =
    (has_wrong_type t.net.prefix t.parts, tc.ADDR_TYPE)
    ∷ ((has_wrong_gateway t.parts, tc.GATEWAY) ∷ ((has_wrong_metric t.parts, tc.METRIC) ∷ []))

abbrev pub tc_rule : AddressParts → Option ℕ
tc_rule t = first_passed (tc_tests t)

-- the same of a message of that type
abbrev pub rule_of : TypedKind → AddressParts → Option ℕ
rule_of typed.Hello = hello_rule
rule_of typed.Tc = tc_rule

-- the rule and the address that were found, or those of a later row, where its rule has a lower number
abbrev pub sooner : Option (ℕ × NetAddr) → Option ℕ → NetAddr → Option (ℕ × NetAddr)
sooner found None net = found
sooner None (Some number) net = Some (number, net)
sooner (Some (first, at)) (Some number) net = if nat_lt number first then Some (number, net) else Some (first, at)

-- what is found in rows, after what was found before
abbrev pub first_rule : (AddressParts → Option ℕ) → Option (ℕ × NetAddr) → List AddressParts → Option (ℕ × NetAddr)
first_rule rule found [] = found
first_rule rule found (t ∷ rows) = first_rule rule (sooner found (rule t) t.net) rows
