-- Tables of expiring tuples, compared by look-up at each key.
use Rattle.std.specs.Prelude.{◌≡◌, ℕ, List, [], Contains, Option, Some, None, slice_index_or, Bool, true, cond, nat_eq, nat_lt, ◌&&◌}
use Rattle.std.specs.List.{IsDistinct}
use Rattle.std.proofs.Common.{lit≤}
use Rattle.std.proofs.Math.Nat.{mod-one}
use Rattle.std.specs.Map.{lookup, keys_of}
use Rattle.mesh_atoms.specs.declared.addr.Addr4.{Addr4}
use Rattle.mesh_atoms.specs.declared.addr.NetAddr.{NetAddr}
use Rattle.mesh_atoms.specs.declared.tuples.LinkKey.{LinkKey}
use Rattle.mesh_atoms.specs.declared.tuples.TwoHopKey.{TwoHopKey}
use Rattle.mesh_atoms.specs.declared.tuples.RouterKey.{RouterKey}
use Rattle.mesh_atoms.specs.declared.tuples.AddressKey.{AddressKey}
use Rattle.mesh_atoms.specs.declared.tuples.NetworkKey.{NetworkKey}
use Rattle.mesh_atoms.specs.declared.tuples.FloodKey.{FloodKey}

-- tuples of a key, a record and an expiry moment, in no order that means anything
abbrev pub Base : Type 0 → Type 0 → Type 0
Base K V = List (K × (V × ℕ))

-- the tuple with that key has that record
abbrev pub Has : {K V : Type 0} → Base K V → K → V → Type 0
Has {K} {V} base key value = (until : ℕ) × Contains base (key, (value, until))

-- no key stands twice
abbrev pub HasDistinctKeys : {K V : Type 0} → (K → K → Bool) → Base K V → Type 0
HasDistinctKeys eq base = IsDistinct eq (keys_of base)

-- the record and the moment at a key
abbrev pub find : {K V : Type 0} → (K → K → Bool) → Base K V → K → Option (V × ℕ)
find eq base key = lookup (eq key) base

-- the new base has this at the key (`None` takes it out), and at each other key what the old one has
abbrev pub SetsOnly : {K V : Type 0} → (K → K → Bool) → Base K V → Base K V → K → Option (V × ℕ) → Type 0
SetsOnly {K} eq old new key entry = (q : K) → find eq new q ≡ cond (eq key q) entry (find eq old q)

-- two bases say the same
abbrev pub Same : {K V : Type 0} → (K → K → Bool) → Base K V → Base K V → Type 0
Same {K} eq old new = (q : K) → find eq new q ≡ find eq old q

-- the entry, where it isn't expired
abbrev pub if_live : {V : Type 0} → ℕ → Option (V × ℕ) → Option (V × ℕ)
if_live now None = None
if_live now (Some e) = cond (nat_lt now e.1) (Some e) None

-- the new base has exactly what isn't expired in the old one
abbrev pub Expires : {K V : Type 0} → (K → K → Bool) → ℕ → Base K V → Base K V → Type 0
Expires {K} eq now old new = (q : K) → find eq new q ≡ if_live now (find eq old q)

-- nothing in the base is expired
abbrev pub IsFresh : {K V : Type 0} → (K → K → Bool) → ℕ → Base K V → Type 0
IsFresh {K} {V} eq now base = (q : K) (value : V) (until : ℕ) → find eq base q ≡ Some (value, until) → nat_lt now until ≡ true

-- the base of an interface; empty where there is no such interface
abbrev pub base_of : {K V : Type 0} → List (Base K V) → ℕ → Base K V
base_of bases i = slice_index_or bases i []

-- when two keys are the same: addresses by their number
abbrev pub addr_eq : Addr4 → Addr4 → Bool
addr_eq a b = nat_eq a.0 b.0

-- networks by their address and prefix
abbrev pub net_eq : NetAddr → NetAddr → Bool
net_eq a b = addr_eq a.addr b.addr && nat_eq a.prefix b.prefix

-- links of an interface by the least address of the neighbour's interface
abbrev pub link_eq : LinkKey → LinkKey → Bool
link_eq a b = addr_eq a.addr b.addr

-- 2-hop tuples of an interface by the link and by the 2-hop address
abbrev pub two_hop_eq : TwoHopKey → TwoHopKey → Bool
two_hop_eq a b = link_eq a.link b.link && addr_eq a.addr b.addr

-- router topology tuples by both originators (TR_from_orig_addr and TR_to_orig_addr of RFC 7181)
abbrev pub router_eq : RouterKey → RouterKey → Bool
router_eq a b = addr_eq a.from b.from && addr_eq a.to b.to

-- routable address topology tuples by originator and address (TA_from_orig_addr and TA_dest_addr)
abbrev pub address_eq : AddressKey → AddressKey → Bool
address_eq a b = addr_eq a.from b.from && addr_eq a.addr b.addr

-- attached network tuples by originator and network (AN_orig_addr and AN_net_addr)
abbrev pub network_eq : NetworkKey → NetworkKey → Bool
network_eq a b = addr_eq a.from b.from && net_eq a.net b.net

-- messages seen before by their type, originator and sequence number
abbrev pub flood_eq : FloodKey → FloodKey → Bool
flood_eq a b = nat_eq a.kind b.kind && (addr_eq a.originator b.originator && nat_eq a.sequence b.sequence)

-- a host's address as a node
abbrev pub host : Addr4 → NetAddr
host a = record { addr = a; prefix = 32; within = lit≤ tt; clear = mod-one a.0 }
