-- The checks after the walk: what stands twice, and the arcs.
use Rattle.std.specs.Prelude.{ℕ, List, [], ◌∷◌, ◌++◌, map, position, Bool, not, nat_eq, codes, Option, Some, None, Ok, Err, if◌then◌else◌, ◌&&◌}
use Rattle.std.specs.List.{list_all, list_any, flat_map, slice_get}
use Rattle.toml.specs.Data.{Data, Members}
use Rattle.mesh_atoms.specs.declared.addr.Addr4.{Addr4}
use Rattle.mesh_atoms.specs.Base.{addr_eq}
use Rattle.mesh_atoms.specs.Settings.{name_eq, are_distinct, Ends, ends_eq}
use Rattle.mesh_config.specs.Keys.Faults.{Fault, ReadValue, Visits, fault, visit, first, listed, bad_value}
use Rattle.mesh_config.specs.declared.keys.refusal.TheConstants.{DUPLICATE, UNKNOWN_NAME}
use Rattle.mesh_config.specs.Stated.Tables.{table_of}
use Rattle.mesh_atoms.specs.Literals.{◌>>=◌}
use Rattle.mesh_config.specs.Stated.Router.{name, addresses, interfaces, attached, net}
use Rattle.mesh_config.specs.Stated.Scenario.{place, routers, arcs, scenario_table_visits}

-- what of a router must not stand twice: its name, the names of its interfaces, its addresses and its networks
pub record Identifiers : Type 0 where
  pub router_name : List ℕ
  pub interface_names : List (List ℕ)
  pub addrs : List Addr4
  pub nets : List (Addr4 × ℕ)

-- the tables of an array
abbrev pub tables_in : ReadValue (List Data) → List Members
tables_in read = map table_of (listed read)

-- a network that is read; 0.0.0.0/0 where a fault stands
abbrev pub net_in : ReadValue (Addr4 × ℕ) → Addr4 × ℕ
net_in (Ok n) = n
net_in (Err f) = (record { 0 = 0 }, 0)

-- those of a router's table
abbrev pub table_identifiers : Members → Identifiers
table_identifiers table = record {
  router_name = listed (name table);
  interface_names = map (λ i. listed (name i)) (tables_in (interfaces table));
  addrs = flat_map (λ i. listed (addresses i)) (tables_in (interfaces table));
  nets = map (λ a. net_in (net a)) (tables_in (attached table));
}

-- routers of one name
abbrev pub same_name : Identifiers → Identifiers → Bool
same_name a b = name_eq a.router_name b.router_name

-- networks of one address and one prefix
abbrev pub same_net : Addr4 × ℕ → Addr4 × ℕ → Bool
same_net a b = addr_eq a.0 b.0 && nat_eq a.1 b.1

-- the network is that address alone
abbrev pub is_address : Addr4 × ℕ → Addr4 → Bool
is_address n addr = nat_eq n.1 32 && addr_eq n.0 addr

-- no network of the router is one of these addresses alone
abbrev pub attaches_none : List Addr4 → Identifiers → Bool
attaches_none addrs router = list_all (λ n. not (list_any (is_address n) addrs)) router.nets

-- a fault where the check fails
abbrev pub duplicate_unless : Bool → List ℕ → Option Fault
duplicate_unless ok key = if ok then None else Some (fault DUPLICATE key)

-- the checks for duplicates, in their order
abbrev pub duplicates : List Identifiers → Visits
duplicates routers =
    duplicate_unless (are_distinct same_name routers) (codes "name")
    ∷ duplicate_unless (list_all (λ r. are_distinct name_eq r.interface_names) routers) (codes "name")
    ∷ duplicate_unless (are_distinct addr_eq (flat_map (λ r. r.addrs) routers)) (codes "addresses")
    ∷ duplicate_unless (list_all (λ r. are_distinct same_net r.nets) routers) (codes "net")
    ∷ duplicate_unless (list_all (attaches_none (flat_map (λ r. r.addrs) routers)) routers) (codes "net")
    ∷ []

-- ---- arcs

-- an end of an arc: the name of a router, and that of one of its interfaces
abbrev pub NamedInterface : Type 0
NamedInterface = List ℕ × List ℕ

-- the numbers of a router and of one of its interfaces, by their names
abbrev pub find_place : List Identifiers → NamedInterface → Option (ℕ × ℕ)
find_place routers p =
    position (λ r. name_eq p.0 r.router_name) routers >>= λ router. slice_get routers router >>= λ r.
    position (name_eq p.1) r.interface_names >>= λ iface. Some (router, iface)

-- one after the other, up to the first fault
infixl 10 ◌>>?◌
abbrev pub ◌>>?◌ : {A B : Type 0} → ReadValue A → (A → ReadValue B) → ReadValue B
(Ok x) >>? f = f x
(Err e) >>? f = Err e

-- the numbers that are found by names; an unknown name at that key where there are none
abbrev pub known_place : List ℕ → Option (ℕ × ℕ) → ReadValue (ℕ × ℕ)
known_place key None = Err (fault UNKNOWN_NAME key)
known_place key (Some p) = Ok p

-- what an arc joins: it leads from interface a.1 of router a.0 to interface b.1 of router b.0
abbrev pub ends : ℕ × ℕ → ℕ × ℕ → Ends
ends a b = record { from = a.0; from_iface = a.1; to = b.0; to_iface = b.1 }

-- two interfaces of two routers that no earlier arc joins
abbrev pub new_ends : List Ends → ℕ × ℕ → ℕ × ℕ → ReadValue Ends
new_ends earlier a b =
    if nat_eq a.0 b.0 then Err (bad_value (codes "to"))
    else (if list_any (ends_eq (ends a b)) earlier then Err (fault DUPLICATE (codes "arc")) else Ok (ends a b))

-- what an arc joins, by the names of its ends, of which `from` is looked up first
abbrev pub joined : List Identifiers → List Ends → NamedInterface × NamedInterface → ReadValue Ends
joined routers earlier arc =
    known_place (codes "from") (find_place routers arc.0) >>? λ a.
    known_place (codes "to") (find_place routers arc.1) >>? λ b. new_ends earlier a b

-- what the arcs join, arc by arc
abbrev pub joins : List Identifiers → List Ends → List (NamedInterface × NamedInterface) → ReadValue (List Ends)
joins routers earlier [] = Ok []
joins routers earlier (arc ∷ arcs) = joined routers earlier arc >>? λ e. joins routers (earlier ++ e ∷ []) arcs >>? λ es. Ok (e ∷ es)

-- a place that is read; empty names where a fault stands
abbrev pub place_in : ReadValue NamedInterface → NamedInterface
place_in (Ok p) = p
place_in (Err f) = ([], [])

-- the places that the table of an arc names, from which and to which it leads
abbrev pub places_table : Members → NamedInterface × NamedInterface
places_table table = (place_in (place (codes "from") table), place_in (place (codes "to") table))

-- ---- a scenario

-- what must not stand twice, of each router
abbrev pub all_identifiers : Members → List Identifiers
all_identifiers table = map table_identifiers (tables_in (routers table))

-- what the arcs of the top table join, or the first fault that stands there
abbrev pub arc_ends : Members → ReadValue (List Ends)
arc_ends table = joins (all_identifiers table) [] (map places_table (tables_in (arcs table)))

-- the walk from the top table comes first, then what stands twice, and then the arcs
abbrev pub scenario_visits : Members → Visits
scenario_visits table = first (scenario_table_visits table) ∷ first (duplicates (all_identifiers table)) ∷ visit (arc_ends table) ∷ []
