-- What an event does to its router before relays are told, and what it is to send.
use Rattle.std.specs.Prelude.{◌≡◌, ℕ, ◌+◌, ◌%◌, ◌<◌, ◌≤◌, List, [], ◌∷◌, ◌++◌, map, length, Bool, nat_eq}
use Rattle.std.specs.List.{enumerate_from}
use Rattle.mesh_atoms.specs.declared.addr.Addr4.{Addr4}
use Rattle.mesh_atoms.specs.declared.tc.TcRow.{TcRow}
use Rattle.mesh_atoms.specs.declared.tuples.Relays.{Relays}
use Rattle.mesh_atoms.specs.Advertised.{AreTcRows, AreParts}
use Rattle.mesh_atoms.specs.Live.{Live}
use Rattle.mesh_atoms.specs.State.{Bases, State, IsOriginator}
use Rattle.mesh_texts.specs.machine.packet.declared.packet.Span.{Span}
use Rattle.mesh_texts.specs.machine.packet.Fields.{PacketFields}
use Rattle.mesh_texts.specs.machine.packet.Grammar.{Spells, FirstFault}
use Rattle.mesh_texts.specs.machine.declared.arrival.Arrival.{Arrival}
use Rattle.mesh_texts.specs.machine.declared.fate.Fate.{Fate}
use Rattle.mesh_texts.specs.machine.declared.frame.Frame.{Frame}
use Rattle.mesh_texts.specs.machine.Messages.{TakesMessages}
use Rattle.mesh_texts.specs.machine.Renewal.{IsNextAnsn, IsEmptied}
use Rattle.mesh_texts.specs.machine.Sending.{IsNextMoment, HasToAdvertise}
use Rattle.mesh_trace.specs.Positions.Standing.{Item, Hello, Tc, Sent, relay_items}

-- no relays were told yet
abbrev pub none_told : Relays
none_told = record { flooding = []; routing = [] }

-- an event at now leaves these bases, and what follows from them without a choice is renewed: the advertised rows with their ANSN.
-- Relays are still to be told. This is the end of an event of the machine (Renews) but for relays and routes
pub record Follows (old : State) (now : ℕ) (bases : Bases) (new : State) : Type 0 where
  pub settings : new.settings ≡ old.settings
  pub bases_are : new.bases ≡ bases
  pub last : new.last ≡ now
  pub relays : new.relays ≡ none_told
  pub rows : AreTcRows new new.rows
  pub ansn : IsNextAnsn old new
  pub emptied : IsEmptied old new

-- a frame that spells a packet is heard: what is expired goes, then its messages are taken in order, and what they forward is to be sent
pub record TakesPacket (old : State) (arrival : Arrival) (bytes : List ℕ) (sent : List Frame) (new : State) : Type 0 where
  pub packet : PacketFields
  pub spans : List Span
  pub spelled : Spells packet spans bytes
  pub own : Addr4
  pub is_own : IsOriginator old.settings own
  pub live : Bases
  pub is_live : Live old.settings arrival.now old.bases live
  pub bases : Bases
  pub fates : List Fate
  pub takes : TakesMessages old.settings own arrival bytes live packet.messages spans bases sent fates
  pub follows : Follows old arrival.now bases new
  pub sequence : new.sequence ≡ old.sequence
  pub next_hello : new.next_hello ≡ old.next_hello
  pub next_tc : new.next_tc ≡ old.next_tc

-- what a frame that is heard does, and what is then to be told: nothing of a frame with a fault, which changes nothing
pub data HearsBy (old : State) (arrival : Arrival) (bytes : List ℕ) : State → List Item → Type 0 where
  Refused : (place reason : ℕ) → FirstFault bytes place reason → HearsBy old arrival bytes old []
  Taken : {sent : List Frame} {new : State} → TakesPacket old arrival bytes sent new →
      HearsBy old arrival bytes new (relay_items new.settings ++ map Sent sent)

-- the HELLOs of a tick: none before they are due, else one on each interface
pub data HellosDue (old new : State) : List Item → Type 0 where
  Hellos_early : new.last < old.next_hello → new.next_hello ≡ old.next_hello → HellosDue old new []
  Hellos_due : old.next_hello ≤ new.last →
      IsNextMoment new.settings.hello_at new.settings.times.hello new.last new.next_hello →
      HellosDue old new (map (λ f. Hello f.0) (enumerate_from 0 new.settings.interfaces))

-- a TC for each part of the rows, each with the next number
abbrev pub part_items : Bool → ℕ → List (List TcRow) → List Item
part_items complete sequence [] = []
part_items complete sequence (rows ∷ parts) = Tc complete sequence rows ∷ part_items complete ((sequence + 1) % 65536) parts

-- the TCs of a tick: none before they are due, or where there is nothing to advertise; else one for each part of the rows
pub data TcsDue (old new : State) : List Item → Type 0 where
  Tcs_early : new.last < old.next_tc → new.next_tc ≡ old.next_tc → new.sequence ≡ old.sequence → TcsDue old new []
  Tcs_silent : old.next_tc ≤ new.last → IsNextMoment new.settings.tc_at new.settings.times.tc new.last new.next_tc →
      (HasToAdvertise new → ⊥) → new.sequence ≡ old.sequence → TcsDue old new []
  Tcs_due : old.next_tc ≤ new.last → IsNextMoment new.settings.tc_at new.settings.times.tc new.last new.next_tc →
      HasToAdvertise new → (parts : List (List TcRow)) → AreParts new.settings.tc_rows new.rows parts →
      new.sequence ≡ (old.sequence + length parts) % 65536 →
      TcsDue old new (part_items (nat_eq (length parts) 1) old.sequence parts)

-- the clock ticks: what is expired goes, and what is due is to be sent, the HELLOs first
pub record TicksBy (old : State) (now : ℕ) (new : State) (left : List Item) : Type 0 where
  pub live : Bases
  pub is_live : Live old.settings now old.bases live
  pub follows : Follows old now live new
  pub hellos : List Item
  pub are_hellos : HellosDue old new hellos
  pub tcs : List Item
  pub are_tcs : TcsDue old new tcs
  pub whole : left ≡ relay_items new.settings ++ (hellos ++ tcs)
