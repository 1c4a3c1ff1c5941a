-- The settings of routers that have one interface with one address, and a scenario of them, are in their ranges.
use Rattle.mesh_laws.proofs.Common.{common_steps, ◌≡◌, ℕ, zero, suc, ◌<◌, ◌≤◌, ◌^◌, arith, List, [], ◌∷◌, length, Option, Some, None, IsTrue, Addr4, NetAddr, net_eq, one_millisecond, one_hour, longest_delay, are_distinct, are_no_hosts, IsInterval, IsTimes, IsEnd, IsCount, IsName, IsInterface, IsRouter}

-- router x has one address and one interface
abbrev pub addr : ℕ → Addr4
addr x = record { 0 = suc x }

-- the names are a, b and c
abbrev pub letter : ℕ → ℕ
letter zero = 97
letter (suc zero) = 98
letter (suc (suc x)) = 99

pub code_fits : 0 < 4096
code_fits = omega arith

pub seven_within : 7 ≤ 15
seven_within = omega arith

pub no_senders : 0 ≤ 4096
no_senders = omega arith

pub no_near_holds : 0 ≤ 8
no_near_holds = omega arith

pub all_rows : IsCount 1 1088 1088
all_rows = record { at_least = omega arith; at_most = omega arith }

pub none_lost : 0 ≤ 1000
none_lost = omega arith

pub some_delay : one_millisecond ≤ 9
some_delay = omega arith

pub short_delay : 9 ≤ longest_delay
short_delay = omega arith

pub is_end : IsEnd 16384
is_end = record { least = omega arith; most = omega arith }

pub small_seed : 0 < 2 ^ 63
small_seed = omega arith

pub no_loss : (moment : ℕ) → ◌≡◌ {A = Option ℕ} None (Some moment) → moment ≤ one_hour
no_loss moment e = absurd (cc)

is_interval : (ticks : ℕ) → 820 ≤ ticks → ticks ≤ 29491200 → IsInterval ticks
is_interval ticks least most = record { least = least; most = most }

pub are_times : IsTimes 16384 49152 49152 49152 40960 122880 122880 245760 245760 245760 255
are_times = grind (arith, common_steps, is_interval)

is_name : (x : ℕ) → IsName (letter x ∷ [])
is_name x = grind (arith, common_steps)

pub is_interface : (x : ℕ) → IsInterface (letter x ∷ []) (addr x ∷ [])
is_interface x = grind (arith, common_steps, is_name)

-- a router that attaches these networks
pub router_with : (x : ℕ) (nets : List NetAddr) → length nets ≤ 64 → IsTrue (are_distinct net_eq nets) → IsTrue (are_no_hosts nets (addr x ∷ [])) →
    IsRouter (letter x ∷ []) 0 0 ((letter x ∷ []) ∷ []) (addr x ∷ []) nets
router_with x nets few distinct apart = grind (arith, common_steps, is_name)
