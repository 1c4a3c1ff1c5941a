-- What settings keep: each value in its range, and no name, address, network or arc twice. Moments are in ticks of
-- 1/8192 s; so many milliseconds are the least number of ticks that is no shorter.
use Rattle.std.specs.Prelude.{ℕ, ◌≤◌, List, [], ◌∷◌, length, Bool, true, IsTrue, not, nat_eq, nat_le, nat_lt, ◌&&◌, ◌||◌, slice_index}
use Rattle.std.specs.Cmp.Lexicographic.{pointwise}
use Rattle.std.specs.List.{list_all, list_any}
use Rattle.mesh_atoms.specs.declared.addr.Addr4.{Addr4}
use Rattle.mesh_atoms.specs.declared.addr.NetAddr.{NetAddr}
use Rattle.mesh_atoms.specs.Base.{addr_eq, net_eq}

-- 1 ms
abbrev pub one_millisecond : ℕ
one_millisecond = 9

-- 100 ms
abbrev pub least_interval : ℕ
least_interval = 820

-- 1000 ms
abbrev pub longest_delay : ℕ
longest_delay = 8192

-- 3,600,000 ms
abbrev pub one_hour : ℕ
one_hour = 29491200

-- an interval or a hold time is from 100 ms to an hour
pub record IsInterval (ticks : ℕ) : Type 0 where
  pub least : least_interval ≤ ticks
  pub most : ticks ≤ one_hour

-- the intervals and hold times of a router, and the hop limit of its TCs
pub record IsTimes
    (hello hold link_hold neighbour_hold tc topology_hold advertised_hold received_hold processed_hold forwarded_hold tc_hop_limit : ℕ) :
    Type 0 where
  pub hello_range : IsInterval hello
  pub hold_range : IsInterval hold
  pub link_hold_range : IsInterval link_hold
  pub neighbour_hold_range : IsInterval neighbour_hold
  pub tc_range : IsInterval tc
  pub topology_hold_range : IsInterval topology_hold
  pub advertised_hold_range : IsInterval advertised_hold
  pub received_hold_range : IsInterval received_hold
  pub processed_hold_range : IsInterval processed_hold
  pub forwarded_hold_range : IsInterval forwarded_hold
  pub hop_limit : 1 ≤ tc_hop_limit

-- a run ends after 1 ms to an hour
pub record IsEnd (ticks : ℕ) : Type 0 where
  pub least : one_millisecond ≤ ticks
  pub most : ticks ≤ one_hour

-- so many, from `least` to `most`
pub record IsCount (least most count : ℕ) : Type 0 where
  pub at_least : least ≤ count
  pub at_most : count ≤ most

-- a lower case letter or a digit
abbrev pub is_name_octet : ℕ → Bool
is_name_octet c = (nat_le 97 c && nat_le c 122) || (nat_le 48 c && nat_le c 57)

-- a name has 1 to 16 lower case letters and digits
pub record IsName (name : List ℕ) : Type 0 where
  pub size : IsCount 1 16 (length name)
  pub octets : IsTrue (list_all is_name_octet name)

-- no value stands twice
abbrev pub are_distinct : {A : Type 0} → (A → A → Bool) → List A → Bool
are_distinct eq [] = true
are_distinct eq (x ∷ xs) = not (list_any (eq x) xs) && are_distinct eq xs

-- two names are the same
abbrev pub name_eq : List ℕ → List ℕ → Bool
name_eq = pointwise nat_eq

-- the network is one host, that address
abbrev pub is_host : NetAddr → Addr4 → Bool
is_host net addr = nat_eq net.prefix 32 && addr_eq net.addr addr

-- none of the networks is one of the addresses
abbrev pub are_no_hosts : List NetAddr → List Addr4 → Bool
are_no_hosts nets addrs = list_all (λ net. not (list_any (is_host net) addrs)) nets

-- an address other than 0.0.0.0
abbrev pub is_addressed : Addr4 → Bool
is_addressed addr = nat_lt 0 addr.0

-- an interface: its name, and 1 to 4 addresses, none of them 0.0.0.0
pub record IsInterface (name : List ℕ) (addrs : List Addr4) : Type 0 where
  pub named : IsName name
  pub few : IsCount 1 4 (length addrs)
  pub addressed : IsTrue (list_all is_addressed addrs)

-- a router: its name, the moments of its first messages, the names and the addresses of its 1 to 8 interfaces, and the
-- networks that it attaches, at most 64
pub record IsRouter (name : List ℕ) (hello_at tc_at : ℕ) (names : List (List ℕ)) (addrs : List Addr4) (nets : List NetAddr) : Type 0 where
  pub named : IsName name
  pub hello_range : hello_at ≤ one_hour
  pub tc_range : tc_at ≤ one_hour
  pub interfaces : IsCount 1 8 (length names)
  pub attached : length nets ≤ 64
  pub distinct_names : IsTrue (are_distinct name_eq names)
  pub distinct_addrs : IsTrue (are_distinct addr_eq addrs)
  pub distinct_nets : IsTrue (are_distinct net_eq nets)
  pub no_hosts : IsTrue (are_no_hosts nets addrs)

-- the numbers stand in ascending order, none twice
abbrev pub are_ascending : List ℕ → Bool
are_ascending [] = true
are_ascending (n ∷ ns) = list_all (nat_lt n) ns && are_ascending ns

-- a quality from a moment up to an hour on
abbrev pub is_step : ℕ → ℕ → Bool
is_step at quality = nat_le at one_hour && nat_le quality 100

-- the thresholds by which links are admitted
abbrev pub are_thresholds : ℕ → ℕ → Bool
are_thresholds accept reject = nat_le reject accept && nat_le accept 100

-- up to so many hops, from 1 to 254, a TC is valid for such a hold time
pub record IsNearHold (hops hold : ℕ) : Type 0 where
  pub hops_range : IsCount 1 254 hops
  pub hold_range : IsInterval hold

-- the senders that a running router has metrics of on one interface: at most 1,024, none twice
abbrev pub are_senders : List Addr4 → Bool
are_senders addrs = nat_le (length addrs) 1024 && are_distinct addr_eq addrs

-- the two interfaces that an arc joins, routers and the interfaces of each being numbered from 0
pub record Ends : Type 0 where
  pub from : ℕ
  pub from_iface : ℕ
  pub to : ℕ
  pub to_iface : ℕ

-- two arcs join the same interfaces
abbrev pub ends_eq : Ends → Ends → Bool
ends_eq a b = nat_eq a.from b.from && (nat_eq a.from_iface b.from_iface && (nat_eq a.to b.to && nat_eq a.to_iface b.to_iface))

-- the router has an interface of that number, where the routers have so many interfaces each
abbrev pub is_interface : List ℕ → ℕ → ℕ → Bool
is_interface counts router iface = nat_lt iface (slice_index counts router)

-- an arc joins interfaces of two different routers
abbrev pub joins_routers : List ℕ → Ends → Bool
joins_routers counts ends =
    is_interface counts ends.from ends.from_iface && (is_interface counts ends.to ends.to_iface && not (nat_eq ends.from ends.to))

-- a scenario's 1 to 64 routers: their names, and their addresses and networks over all routers
pub record AreRouters (names : List (List ℕ)) (addrs : List Addr4) (nets : List NetAddr) : Type 0 where
  pub routers : IsCount 1 64 (length names)
  pub distinct_names : IsTrue (are_distinct name_eq names)
  pub distinct_addrs : IsTrue (are_distinct addr_eq addrs)
  pub no_hosts : IsTrue (are_no_hosts nets addrs)

-- a scenario's arcs, at most 4,096, where its routers have so many interfaces each
pub record AreArcs (counts : List ℕ) (arcs : List Ends) : Type 0 where
  pub few : length arcs ≤ 4096
  pub join_routers : IsTrue (list_all (joins_routers counts) arcs)
  pub distinct : IsTrue (are_distinct ends_eq arcs)
