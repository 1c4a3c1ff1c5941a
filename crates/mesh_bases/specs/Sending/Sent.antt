-- What a tick sends, by the neighbourhood or by what was derived from the bases alone.
use Rattle.std.specs.Prelude.{◌≡◌, ℕ, ◌+◌, ◌%◌, List, length, nat_eq}
use Rattle.mesh_atoms.specs.declared.settings.RouterSettings.{RouterSettings}
use Rattle.mesh_atoms.specs.declared.tc.TcRow.{TcRow}
use Rattle.mesh_atoms.specs.Advertised.{AreParts}
use Rattle.mesh_atoms.specs.Validity.{IsValidity}
use Rattle.mesh_atoms.specs.State.{Neighbourhood, State}
use Rattle.mesh_bases.specs.declared.derived.Derived.{Derived}
use Rattle.mesh_machine.specs.declared.frame.Frame.{Frame}
use Rattle.mesh_machine.specs.Sending.{SendsHellos, SendsParts, SendsTcs}

-- the HELLOs that a tick sends with this neighbourhood, whatever becomes of the next TC
abbrev pub HellosAreSent : RouterSettings → Neighbourhood → Derived → Derived → List Frame → Type 0
HellosAreSent settings near old new sent =
    (before s : State) → before.next_hello ≡ old.next_hello → s.settings ≡ settings → s.bases.neighbourhood ≡ near →
    s.relays ≡ new.relays → s.last ≡ new.last → s.next_hello ≡ new.next_hello → SendsHellos before s sent

-- the state has these advertised rows, their ANSN, and these moments
pub record HasRowsOf (s : State) (derived : Derived) : Type 0 where
  pub rows : s.rows ≡ derived.rows
  pub ansn : s.ansn ≡ derived.ansn
  pub emptied : s.emptied ≡ derived.emptied
  pub last : s.last ≡ derived.last

-- the TCs that a tick sends, whatever bases, relays and routes are
abbrev pub TcsAreSent : RouterSettings → Derived → Derived → List Frame → Type 0
TcsAreSent settings old new sent =
    (before s : State) → before.sequence ≡ old.sequence → before.next_tc ≡ old.next_tc → s.settings ≡ settings → HasRowsOf s new →
    s.sequence ≡ new.sequence → s.next_tc ≡ new.next_tc → SendsTcs before s sent

-- a TC is sent for each part of the rows
pub record SendsAllParts (s : State) (old new : ℕ) (sent : List Frame) : Type 0 where
  pub parts : List (List TcRow)
  pub cut : AreParts s.settings.tc_rows s.rows parts
  pub validity : List ℕ
  pub is : IsValidity s.settings.times.topology_hold s.settings.near_hold validity
  pub number : new ≡ (old + length parts) % 65536
  pub sends : SendsParts s validity (nat_eq (length parts) 1) old parts sent

-- the same, whatever bases, relays and routes are
abbrev pub PartsAreSent : RouterSettings → Derived → Derived → List Frame → Type 0
PartsAreSent settings old new sent = (s : State) → s.settings ≡ settings → HasRowsOf s new → SendsAllParts s old.sequence new.sequence sent
