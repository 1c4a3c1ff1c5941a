-- The table of times.
use Rattle.std.specs.Prelude.{◌≡◌, ℕ, Ok, List, [], ◌∷◌, ◌++◌, map, codes}
use Rattle.toml.specs.Data.{Members}
use Rattle.mesh_atoms.specs.declared.settings.Times.{Times}
use Rattle.mesh_config.specs.Keys.Faults.{ReadValue, Visits, visit, then_turned}
use Rattle.mesh_config.specs.Keys.Values.{optional, whole, table_visits, ticks}

-- the intervals and hold times that the table may say, in the order of their visits: the key of each, and the milliseconds that it
-- has where the key is absent
abbrev pub intervals : List (List ℕ × ℕ)
intervals =
    -- between two HELLOs (HELLO_INTERVAL of RFC 6130)
    (codes "hello_ms", 2000)
    -- the validity of a HELLO (H_HOLD_TIME)
    ∷ (codes "hold_ms", 6000)
    -- how long a link that is not heard any more is told as lost (L_HOLD_TIME)
    ∷ (codes "link_hold_ms", 6000)
    -- how long the address of a lost neighbour is told as lost (N_HOLD_TIME)
    ∷ (codes "neighbour_hold_ms", 6000)
    -- between two TCs (TC_INTERVAL of RFC 7181)
    ∷ (codes "tc_ms", 5000)
    -- the validity of a TC (T_HOLD_TIME)
    ∷ (codes "topology_hold_ms", 15000)
    -- how long TCs without rows are sent (A_HOLD_TIME)
    ∷ (codes "advertised_hold_ms", 15000)
    -- how long a message is known as received on an interface (RX_HOLD_TIME)
    ∷ (codes "received_hold_ms", 30000)
    -- how long a message is known as processed (P_HOLD_TIME)
    ∷ (codes "processed_hold_ms", 30000)
    -- how long a message is known as forwarded (F_HOLD_TIME)
    ∷ (codes "forwarded_hold_ms", 30000)
    ∷ []

-- the same intervals and hold times of a router, in the same order
abbrev pub intervals_of : Times → List ℕ
intervals_of t =
    t.hello ∷ t.hold ∷ t.link_hold ∷ t.neighbour_hold ∷ t.tc ∷ t.topology_hold ∷ t.advertised_hold ∷ t.received_hold ∷ t.processed_hold
    ∷ t.forwarded_hold ∷ []

-- an interval or a hold time of 100 ms to an hour, in ticks
abbrev pub interval : Members → List ℕ × ℕ → ReadValue ℕ
interval table i = then_turned ticks (optional i.1 (whole 100 3600000) i.0 table)

-- over how many hops a TC goes at most (TC_HOP_LIMIT), from 1 to 255; 255 where it is absent
abbrev pub tc_hop_limit : Members → ReadValue ℕ
tc_hop_limit = optional 255 (whole 1 255) (codes "tc_hop_limit")

-- the visits of the table of times
abbrev pub times_visits : Members → Visits
times_visits table =
    table_visits (map (λ i. i.0) intervals ++ codes "tc_hop_limit" ∷ []) table
    (map (λ i. visit (interval table i)) intervals ++ visit (tc_hop_limit table) ∷ [])

-- the times that the table says, in ticks, and its hop limit
pub record TimesIs (table : Members) (times : Times) : Type 0 where
  pub are_intervals : map (interval table) intervals ≡ map Ok (intervals_of times)
  pub is_hop_limit : tc_hop_limit table ≡ Ok times.tc_hop_limit
