-- What the table of a router says of the links that it admits, and of its TCs.
use Rattle.std.specs.Prelude.{◌≡◌, ℕ, List, [], ◌∷◌, codes, Ok, Err}
use Rattle.toml.specs.Data.{Data, Members}
use Rattle.mesh_atoms.specs.declared.settings.NearHold.{NearHold}
use Rattle.mesh_atoms.specs.declared.settings.TheConstants.{DEFAULT_TC_ROWS}
use Rattle.mesh_atoms.specs.declared.limits.TheConstants.{MOST_TC_ROWS}
use Rattle.mesh_config.specs.Keys.Faults.{ReadValue, Visits, visit, listed, then_turned}
use Rattle.mesh_config.specs.Keys.Values.{optional, required, whole, array_or_none, ticks}
use Rattle.mesh_config.specs.Stated.Tables.{numbered_visits, rising_visits}

-- ---- thresholds

-- the quality from which on a link is accepted (HYST_ACCEPT of RFC 6130), in hundredths from 0 to 100; 0 where it is absent
abbrev pub hyst_accept : Members → ReadValue ℕ
hyst_accept = optional 0 (whole 0 100) (codes "hyst_accept")

-- a number that is read; 0 where a fault stands
abbrev pub or_zero : ReadValue ℕ → ℕ
or_zero (Ok n) = n
or_zero (Err f) = 0

-- the quality below which a link is rejected is no greater than the one from which on it is accepted
abbrev pub hyst_reject : Members → ReadValue ℕ
hyst_reject table = optional 0 (whole 0 (or_zero (hyst_accept table))) (codes "hyst_reject") table

-- the quality to accept from is visited, and then the one to reject below
abbrev pub threshold_visits : Members → Visits
threshold_visits table = visit (hyst_accept table) ∷ visit (hyst_reject table) ∷ []

-- the table says these two qualities, both without a fault
pub record AreThresholds (table : Members) (accept reject : ℕ) : Type 0 where
  pub is_accept : hyst_accept table ≡ Ok accept
  pub is_reject : hyst_reject table ≡ Ok reject

-- the two qualities where the table says neither
abbrev pub plain_thresholds : ℕ × ℕ
plain_thresholds = (0, 0)

-- ---- a near hold

-- the number of hops up to which it counts, from 1 to 254; it must stand
abbrev pub hops : Members → ReadValue ℕ
hops = required (whole 1 254) (codes "hops")

-- how long what a TC says is held so near, from 100 ms to an hour, in ticks; it must stand
abbrev pub near_hold_ms : Members → ReadValue ℕ
near_hold_ms table = then_turned ticks (required (whole 100 3600000) (codes "hold_ms") table)

-- the visits of a near hold, whose hops are to be no fewer than so many
abbrev pub near_hold_visits : ℕ → Members → Visits
near_hold_visits = numbered_visits (codes "hops") hops (codes "hold_ms") near_hold_ms

-- the near hold has the hops and the time, in ticks, that its table says
pub record NearHoldIs (table : Members) (near : NearHold) : Type 0 where
  pub is_hops : hops table ≡ Ok near.hops
  pub is_hold : near_hold_ms table ≡ Ok near.hold

-- ---- TCs

-- the most rows of a TC, from 1 to 1,088; 1,088, which is all that a router advertises, where it is absent
abbrev pub tc_rows : Members → ReadValue ℕ
tc_rows = optional DEFAULT_TC_ROWS (whole 1 MOST_TC_ROWS) (codes "tc_rows")

-- the elements that are to be the tables of near holds, at most 8; none where they are absent
abbrev pub near_holds : Members → ReadValue (List Data)
near_holds = array_or_none 8 (codes "near_hold")

-- the number of the near holds is visited, and then the table of each, whose hops are to be more than those before
abbrev pub near_holds_visits : Members → Visits
near_holds_visits table = visit (near_holds table) ∷ rising_visits near_hold_visits hops (codes "near_hold") 0 (listed (near_holds table))
