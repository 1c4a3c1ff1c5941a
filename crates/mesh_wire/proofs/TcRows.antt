-- Rows that are made of what is kept are the rows of the TC.
use Rattle.mesh_wire.proofs.Common.{◌≡◌, refl, false, List, map, Contains, TcRow, MessageFields, AddressParts, Gateway, NBR_ADDR_TYPE, Near_out, HasValue, AreRows, IsReadTcRow, tc_row, is_conflict}
use Rattle.mesh_wire.specs.declared.octets.OctetKind.TheVariants.{AddrType}
use Rattle.mesh_wire.proofs.HelloRows.{octet_is, metric_is, flag_is}
use Rattle.mesh_wire.proofs.Kept.{AreTold}
use Rattle.mesh_wire.proofs.Made.{rows_made}
use Rattle.mesh_wire.proofs.Slots.{RowIs}

-- a row that keeps the rules that its reading looks at
pub record IsSound (t : AddressParts) : Type 0 where
  pub gateway : t.parts.octets.gateway.wrong ≡ false
  pub one : is_conflict t.parts.octets.gateway.one ≡ false
  pub metric : is_conflict t.parts.metrics.near_out ≡ false

row_is : (m : MessageFields) (t : AddressParts) → RowIs (HasValue m t.net) t.parts → IsSound t → IsReadTcRow m (tc_row t)
row_is m t kept sound =
    let typed = kept.octets AddrType in record {
      origin = flag_is m t.net NBR_ADDR_TYPE 1 t.parts.octets.addr_type.first typed.first;
      routable = flag_is m t.net NBR_ADDR_TYPE 2 t.parts.octets.addr_type.second typed.second;
      gateway_is = octet_is m t.net Gateway t.parts.octets.gateway (kept.octets Gateway) sound.gateway sound.one;
      metric = metric_is m t.net t.parts.metrics kept.metrics Near_out sound.metric;
    }

pub rows_are : (m : MessageFields) (told : List AddressParts) → AreTold m told → ((t : AddressParts) → Contains told t → IsSound t) → AreRows m (λ (row : TcRow). row.dest) (IsReadTcRow m) (map tc_row told)
rows_are m told are sound = rows_made tc_row (λ (row : TcRow). row.dest) (λ t. refl) m (IsReadTcRow m) told are (λ t there kept. row_is m t kept (sound t there))
