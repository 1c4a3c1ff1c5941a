-- The topology after a TC, from the topology that expiry has left.
use Rattle.std.specs.Prelude.{◌≡◌, ℕ, ◌+◌, not, Contains, Option, Some, None, length, count_by, is_some, IsTrue, Bool, false, cond, nat_lt, nat_eq, ◌&&◌}
use Rattle.mesh_atoms.specs.declared.addr.Addr4.{Addr4}
use Rattle.mesh_atoms.specs.declared.codes.metric.Metric.{Metric}
use Rattle.mesh_atoms.specs.declared.limits.TheConstants.{MOST_TUPLES}
use Rattle.mesh_atoms.specs.declared.tuples.RouterKey.{RouterKey}
use Rattle.mesh_atoms.specs.declared.tuples.AddressKey.{AddressKey}
use Rattle.mesh_atoms.specs.declared.tuples.NetworkKey.{NetworkKey}
use Rattle.mesh_atoms.specs.declared.tuples.Advertiser.{Advertiser}
use Rattle.mesh_atoms.specs.declared.tuples.Base.{Base as Kind}
use Rattle.mesh_atoms.specs.declared.tuples.Base.TheVariants.{Advertisers, Routers, Addresses, Networks}
use Rattle.mesh_atoms.specs.declared.tc.Tc.{Tc}
use Rattle.mesh_atoms.specs.declared.tc.TcRow.{TcRow}
use Rattle.mesh_atoms.specs.Base.{Base, HasDistinctKeys, find, SetsOnly, host, addr_eq, router_eq, address_eq, network_eq}
use Rattle.mesh_atoms.specs.Codes.Codes.{Newer}
use Rattle.mesh_atoms.specs.State.{TopologyBase}

-- What a TC's rows give (RFC 7181, section 16.3.3)

-- a row with ORIGINATOR and a metric gives a router tuple
abbrev pub GivesRouter : Tc → RouterKey → Metric → Type 0
GivesRouter tc key m =
    (key.from ≡ tc.originator) × (row : TcRow) × Contains tc.rows row × (row.dest ≡ host key.to) × IsTrue row.origin
    × (row.metric ≡ Some m)

-- a row with ROUTABLE and a metric gives an address tuple
abbrev pub GivesAddress : Tc → AddressKey → Metric → Type 0
GivesAddress tc key m =
    (key.from ≡ tc.originator) × (row : TcRow) × Contains tc.rows row × (row.dest ≡ host key.addr) × IsTrue row.routable
    × (row.metric ≡ Some m)

-- a row with GATEWAY and a metric gives a network tuple
abbrev pub GivesNetwork : Tc → NetworkKey → ℕ → Metric → Type 0
GivesNetwork tc key distance m =
    (key.from ≡ tc.originator) × (row : TcRow) × Contains tc.rows row × (row.dest ≡ key.net) × (row.gateway ≡ Some distance)
    × (row.metric ≡ Some m)

-- The sets of tuples after it

-- a tuple that no row gives goes where the TC is complete, the tuple is of its originator, and has another number
abbrev pub if_not_dropped : {V : Type 0} → Tc → Addr4 → (V → ℕ) → Option (V × ℕ) → Option (V × ℕ)
if_not_dropped tc from number None = None
if_not_dropped tc from number (Some e) = cond (addr_eq from tc.originator && (tc.complete && not (nat_eq (number e.0) tc.ansn))) None (Some e)

-- one tuple: as a row gives it until the moment, else as it stood, where it isn't dropped
pub data Becomes {K V : Type 0} (tc : Tc) (until : ℕ) (from : K → Addr4) (number : V → ℕ) (Given_by : K → V → Type 0) (key : K)
    (old new : Option (V × ℕ)) : Type 0 where
  Given : (value : V) → Given_by key value → new ≡ Some (value, until) → Becomes tc until from number Given_by key old new
  Left : ((value : V) → Given_by key value → ⊥) → new ≡ if_not_dropped tc (from key) number old → Becomes tc until from number Given_by key old new

-- one set of tuples
pub record BecomesSet {K V : Type 0} (eq : K → K → Bool) (tc : Tc) (until : ℕ) (from : K → Addr4) (number : V → ℕ)
    (Given_by : K → V → Type 0) (old new : Base K V) : Type 0 where
  pub distinct : HasDistinctKeys eq new
  pub at : (key : K) → Becomes tc until from number Given_by key (find eq old key) (find eq new key)

-- the topology after a TC (RFC 7181, section 16.3.3)
pub record AfterTc (now : ℕ) (tc : Tc) (old new : TopologyBase) : Type 0 where
  pub distinct : HasDistinctKeys addr_eq new.advertisers
  pub advertisers : SetsOnly addr_eq old.advertisers new.advertisers tc.originator (Some (record { ansn = tc.ansn }, now + tc.validity))
  pub routers : BecomesSet router_eq tc (now + tc.validity) (λ k. k.from) (λ t. t.ansn)
      (λ k t. GivesRouter tc k t.metric × (t.ansn ≡ tc.ansn)) old.routers new.routers
  pub addresses : BecomesSet address_eq tc (now + tc.validity) (λ k. k.from) (λ t. t.ansn)
      (λ k t. GivesAddress tc k t.metric × (t.ansn ≡ tc.ansn)) old.addresses new.addresses
  pub networks : BecomesSet network_eq tc (now + tc.validity) (λ k. k.from) (λ t. t.ansn)
      (λ k t. GivesNetwork tc k t.distance t.metric × (t.ansn ≡ tc.ansn)) old.networks new.networks

-- What changes nothing

-- the originator's number that is kept is newer than the TC's (RFC 7181, section 16.3.3)
abbrev pub IsOld : TopologyBase → Tc → ℕ → Type 0
IsOld topology tc kept = (e : Advertiser × ℕ) × (find addr_eq topology.advertisers tc.originator ≡ Some e) × (e.0.ansn ≡ kept) × Newer kept tc.ansn

-- whether the tuples of a set and the TC's rows for it are more than 16,384
abbrev pub is_overfull : TopologyBase → Tc → Kind → Bool
is_overfull topology tc Advertisers = nat_lt MOST_TUPLES (length topology.advertisers + 1)
is_overfull topology tc Routers = nat_lt MOST_TUPLES (length topology.routers + count_by (λ row. row.origin && is_some row.metric) tc.rows)
is_overfull topology tc Addresses = nat_lt MOST_TUPLES (length topology.addresses + count_by (λ row. row.routable && is_some row.metric) tc.rows)
is_overfull topology tc Networks = nat_lt MOST_TUPLES (length topology.networks + count_by (λ row. is_some row.gateway && is_some row.metric) tc.rows)
is_overfull topology tc other = false

-- the first of the four sets for which they are too many
abbrev pub first_overfull : TopologyBase → Tc → Option Kind
first_overfull topology tc =
    cond (is_overfull topology tc Advertisers) (Some Advertisers)
    (cond (is_overfull topology tc Routers) (Some Routers)
    (cond (is_overfull topology tc Addresses) (Some Addresses)
    (cond (is_overfull topology tc Networks) (Some Networks) None)))

-- what is answered to a TC
pub data TcAnswer : Type 0 where
  Taken : TcAnswer
  Too_old : ℕ → TcAnswer
  Full_of : Kind → TcAnswer

-- the taking of a TC, with its answer; only a TC that is taken changes anything
pub data TakesTc (now : ℕ) (tc : Tc) (old : TopologyBase) : TopologyBase → TcAnswer → Type 0 where
  Is_old : (kept : ℕ) → IsOld old tc kept → TakesTc now tc old old (Too_old kept)
  Overfull : (kind : Kind) → ((kept : ℕ) → IsOld old tc kept → ⊥) → first_overfull old tc ≡ Some kind → TakesTc now tc old old (Full_of kind)
  Takes : {new : TopologyBase} → ((kept : ℕ) → IsOld old tc kept → ⊥) → first_overfull old tc ≡ None → AfterTc now tc old new →
      TakesTc now tc old new Taken
