-- The kinds of topology tuples: what their keys and tuples say, and what the rows of a TC give.
use Rattle.std.specs.Prelude.{◌≡◌, ℕ, Bool, true, false, Option, Some, None, IfSome, option_map, option_and_then, refl}
use Rattle.std.specs.Bool.{then_some}
use Rattle.mesh_atoms.specs.Base.{host}
use Rattle.mesh_atoms.specs.declared.addr.Addr4.{Addr4}
use Rattle.mesh_atoms.specs.declared.addr.NetAddr.{NetAddr}
use Rattle.mesh_atoms.specs.declared.codes.metric.Metric.{Metric}
use Rattle.mesh_atoms.specs.declared.tc.TcRow.{TcRow}
use Rattle.mesh_atoms.specs.declared.tuples.RouterKey.{RouterKey}
use Rattle.mesh_atoms.specs.declared.tuples.RouterTuple.{RouterTuple}
use Rattle.mesh_atoms.specs.declared.tuples.AddressKey.{AddressKey}
use Rattle.mesh_atoms.specs.declared.tuples.AddressTuple.{AddressTuple}
use Rattle.mesh_atoms.specs.declared.tuples.NetworkKey.{NetworkKey}
use Rattle.mesh_atoms.specs.declared.tuples.NetworkTuple.{NetworkTuple}

-- a kind of topology tuples
pub record TupleKind (K V : Type 0) : Type 0 where
  -- the originator of the TC that gave a tuple
  pub origin : K → Addr4
  -- the router, address or network to which the originator leads
  pub dest : K → NetAddr
  -- the key from an originator to there; the prefix counts for networks alone
  pub key_to : Addr4 → NetAddr → K
  -- that key is one of the originator
  pub from_is : (from : Addr4) (net : NetAddr) → origin (key_to from net) ≡ from
  -- the number of the TC that gave the tuple
  pub number : V → ℕ
  -- what the tuple says beside its number: the distance of a network, and the metric
  pub says : V → Option ℕ × Metric
  -- the tuple that a row with that metric gives in a TC of that number
  pub by_row : ℕ → Metric → TcRow → Option V
  -- that tuple has the number
  pub numbered : (ansn : ℕ) (metric : Metric) (row : TcRow) → IfSome (by_row ansn metric row) (λ tuple. number tuple ≡ ansn)

-- what a row gives in a TC of that originator and number; nothing where it has no metric
abbrev pub given : {K V : Type 0} → TupleKind K V → Addr4 → ℕ → TcRow → Option (K × V)
given kind from ansn row = option_and_then (λ metric. option_map (λ tuple. (kind.key_to from row.dest, tuple)) (kind.by_row ansn metric row)) row.metric

-- what a tuple says beside its number: the distance of a network, and the metric
abbrev pub router_says : RouterTuple → Option ℕ × Metric
router_says t = (None, t.metric)

abbrev pub address_says : AddressTuple → Option ℕ × Metric
address_says t = (None, t.metric)

abbrev pub network_says : NetworkTuple → Option ℕ × Metric
network_says t = (Some t.distance, t.metric)

-- a tuple that a flag gives has its number
pub by_flag : {V : Type 0} (number : V → ℕ) (ansn : ℕ) (tuple : V) → number tuple ≡ ansn → (flag : Bool) → IfSome (then_some flag tuple) (λ given. number given ≡ ansn)
by_flag number ansn tuple is true = is
by_flag number ansn tuple is false = tt

-- a tuple that a distance gives has its number
pub by_distance : {V : Type 0} (number : V → ℕ) (ansn : ℕ) (tuple_at : ℕ → V) → ((distance : ℕ) → number (tuple_at distance) ≡ ansn) → (distance : Option ℕ) →
    IfSome (option_map tuple_at distance) (λ given. number given ≡ ansn)
by_distance number ansn tuple_at is (Some distance) = is distance
by_distance number ansn tuple_at is None = tt

-- a kind of tuples that lead to an address, which the rows with a flag give
abbrev pub host_kind : {K V : Type 0} (origin to : K → Addr4) (key_of : Addr4 → Addr4 → K) → ((from to_addr : Addr4) → origin (key_of from to_addr) ≡ from) → (number : V → ℕ) (says : V → Option ℕ × Metric) (tuple_of : ℕ → Metric → V) →
    ((ansn : ℕ) (metric : Metric) → number (tuple_of ansn metric) ≡ ansn) → (TcRow → Bool) → TupleKind K V
host_kind origin to key_of from_is number says tuple_of numbered flag = record {
  origin = origin;
  dest = λ key. host (to key);
  key_to = λ from net. key_of from net.addr;
  from_is = λ from net. from_is from net.addr;
  number = number;
  says = says;
  by_row = λ ansn metric row. then_some (flag row) (tuple_of ansn metric);
  numbered = λ ansn metric row. by_flag number ansn (tuple_of ansn metric) (numbered ansn metric) (flag row);
}

-- the router topology tuples, which ORIGINATOR rows give
abbrev pub router_kind : TupleKind RouterKey RouterTuple
router_kind = host_kind (λ key. key.from) (λ key. key.to) (λ from to. record { from = from; to = to }) (λ from to. refl) (λ t. t.ansn) router_says (λ ansn m. record { ansn = ansn; metric = m }) (λ ansn m. refl) (λ row. row.origin)

-- the routable address topology tuples, which ROUTABLE rows give
abbrev pub address_kind : TupleKind AddressKey AddressTuple
address_kind = host_kind (λ key. key.from) (λ key. key.addr) (λ from to. record { from = from; addr = to }) (λ from to. refl) (λ t. t.ansn) address_says (λ ansn m. record { ansn = ansn; metric = m }) (λ ansn m. refl) (λ row. row.routable)

-- the attached network tuples, which GATEWAY rows give
abbrev pub network_kind : TupleKind NetworkKey NetworkTuple
network_kind = record {
  origin = λ key. key.from;
  dest = λ key. key.net;
  key_to = λ from net. record { from = from; net = net };
  from_is = λ from net. refl;
  number = λ t. t.ansn;
  says = network_says;
  by_row = λ ansn m row. option_map (λ d. record { ansn = ansn; distance = d; metric = m }) row.gateway;
  numbered = λ ansn m row. by_distance (λ (t : NetworkTuple). t.ansn) ansn _ (λ d. refl) row.gateway;
}
