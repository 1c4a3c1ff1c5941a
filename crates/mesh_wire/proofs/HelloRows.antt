-- Rows that are made of what is kept are the rows of the HELLO.
use Rattle.mesh_wire.proofs.Common.{arith, common_steps, ◌≡◌, ℕ, inl, inr, refl, sym, subst, Bool, false, List, [], ◌∷◌, map, Contains, ◌↔◌, Option, Some, None, IsTrue, option_map, NetAddr, Metric, LocalIf, HelloRow, MessageFields, AddressParts, Single, Absent, Value, Conflict, OctetKind, Local, Mpr, ByKind, Octets, MetricParts, local_value, IsReadHelloRow, local_from, row_with, hello_row, octet_in, metric_at, LOCAL_IF, MPR, LINK_METRIC, MetricKind, metric_of, ShowsMetric, MetricIs, statuses, type_of, at, HasValue, OctetIs, SaysFlag, AreRows, is_conflict, value_from}
use Rattle.mesh_wire.proofs.HelloRuled.{Sound}
use Rattle.mesh_wire.proofs.Kept.{AreTold, octet_back, read_or, kept_value, metrics_told}
use Rattle.mesh_wire.proofs.Made.{rows_made}
use Rattle.mesh_wire.proofs.Statuses.{IsKept, local_among, local_made, made, sender_alone}
use Rattle.mesh_wire.proofs.Slots.{OneIs, Reads, SomeIs, IsFlag, OctetsAre, MetricsAre, RowIs}

-- ---- one octet

octet_of : (m : MessageFields) (net : NetAddr) (kind : OctetKind) (one : Single ℕ) → OneIs (Reads (octet_in kind) (HasValue m net (type_of kind))) one → ((x : List ℕ) → HasValue m net (type_of kind) x → (n : ℕ) × (octet_in kind x ≡ Some n)) → is_conflict one ≡ false → OctetIs m net (type_of kind) (value_from one)
octet_of m net kind Absent h right e = λ x said. (let (n, is) = right x said in h n (x, said, is))
octet_of m net kind (Value n) ((x, said, is), only) right e = subst (HasValue m net (type_of kind)) (octet_back kind x n is).0 said
octet_of m net kind Conflict h right e = absurd (cc)

-- where no value is wrong and there are no two, what is kept is what is said
pub octet_is : (m : MessageFields) (net : NetAddr) (kind : OctetKind) (o : Octets) → OctetsAre kind (HasValue m net (type_of kind)) o → o.wrong ≡ false → is_conflict o.one ≡ false → OctetIs m net (type_of kind) (value_from o.one)
octet_is m net kind o h wrong one = octet_of m net kind o.one h.one (λ x s. elim (read_or kind (HasValue m net (type_of kind)) o h x s) [ inl w ↦ absurd (cc) | inr there ↦ there ]) one

-- ---- metrics

kept_metric : (m : MessageFields) (net : NetAddr) (kind : MetricKind) (one : Single Metric) → OneIs (ShowsMetric m net kind) one → is_conflict one ≡ false → MetricIs m net kind (value_from one)
kept_metric m net kind one h e = grind (arith, common_steps)

pub metric_is : (m : MessageFields) (net : NetAddr) (parts : MetricParts) → MetricsAre (HasValue m net LINK_METRIC) parts → (kind : MetricKind) → is_conflict (metric_at kind parts) ≡ false → MetricIs m net kind (value_from (metric_at kind parts))
metric_is m net parts h kind e = kept_metric m net kind (metric_at kind parts) (metrics_told m net parts h kind) e

-- ---- flags

pub flag_is : (m : MessageFields) (net : NetAddr) (type flag : ℕ) (b : Bool) → (IsTrue b ↔ SomeIs (HasValue m net type) (IsFlag flag)) → IsTrue b ↔ SaysFlag m net type flag
flag_is m net type flag b h = (
  λ e. let (x, s, f) = h.0 e in elim f [ inl is ↦ inl (subst (HasValue m net type) is s) | inr is ↦ inr (subst (HasValue m net type) is s) ],
  λ s. elim s [ inl v ↦ h.1 (flag ∷ [], v, inl refl) | inr v ↦ h.1 (3 ∷ [], v, inr refl) ],
)

-- ---- one row

-- the row has the metrics that are kept
metric_made : (t : AddressParts) (kind : MetricKind) → value_from (metric_at kind t.parts.metrics) ≡ metric_of kind (row_with t None).metrics
metric_made t kind = grind (arith, common_steps)

module _ (m : MessageFields) (t : AddressParts) (kept : RowIs (HasValue m t.net) t.parts) (sound : Sound t) where
  abbrev octets : ByKind Octets
  octets = t.parts.octets

  status : (kind : OctetKind) → Contains statuses kind → OctetIs m t.net (type_of kind) (value_from (at kind octets).one)
  status kind among = octet_is m t.net kind (at kind octets) (kept.octets kind) (sound.defined kind among) (sound.one kind among)

  kept_status : (kind : OctetKind) → IsKept t kind
  kept_status kind = kept_value kind (HasValue m t.net (type_of kind)) (at kind octets) (kept.octets kind)

  row_by : (local : Option LocalIf) → option_map local_from (value_from octets.local.one) ≡ local → OctetIs m t.net LOCAL_IF (option_map local_value local) → IsReadHelloRow m (row_with t local)
  row_by (Some x) e said = record { local = said; of_other = λ none. cc; of_sender = λ some. sender_alone t.net (Some x) }
  row_by None e said = record {
    local = said;
    of_other = λ none. record {
      status = λ kind among. subst (OctetIs m t.net (type_of kind)) (sym (made t e kind among (kept_status kind))) (status kind among);
      metric = λ kind. subst (MetricIs m t.net kind) (metric_made t kind) (metric_is m t.net t.parts.metrics kept.metrics kind (sound.metric kind));
      flooding = flag_is m t.net MPR 1 octets.mpr.first (kept.octets Mpr).first;
      routing = flag_is m t.net MPR 2 octets.mpr.second (kept.octets Mpr).second;
    };
    of_sender = λ some. absurd (cc);
  }

  pub row_is : IsReadHelloRow m (hello_row t)
  row_is = row_by (option_map local_from (value_from octets.local.one)) refl (subst (OctetIs m t.net LOCAL_IF) (sym (local_made t (kept_status Local))) (status Local local_among))

-- ---- all rows

row_net : (t : AddressParts) (local : Option LocalIf) → (row_with t local).addr ≡ t.net
row_net t local = grind (arith, common_steps)

pub rows_are : (m : MessageFields) (told : List AddressParts) → AreTold m told → ((t : AddressParts) → Contains told t → Sound t) → AreRows m (λ (row : HelloRow). row.addr) (IsReadHelloRow m) (map hello_row told)
rows_are m told are sound = rows_made hello_row (λ (row : HelloRow). row.addr) (λ t. row_net t (option_map local_from (value_from t.parts.octets.local.one))) m (IsReadHelloRow m) told are (λ t there kept. row_is m t kept (sound t there))
