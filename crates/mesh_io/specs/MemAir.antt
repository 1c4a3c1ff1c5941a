-- An air in memory, as callers see it.
use Rattle.std.specs.Prelude.{◌≡◌, ℕ, ◌+◌, ◌-◌, ◌^◌, ◌<◌, ◌≤◌, ◌&&◌, ◌||◌, not, nat_lt, nat_le, Bool, [], ◌∷◌, ◌++◌, List, length, take, drop, slice_get, slice_index_or, slice_set, Option, Some, None, is_some, if◌then◌else◌}
use Rattle.mesh_atoms.specs.declared.addr.Endpoint.{Endpoint}
use Rattle.mesh_atoms.specs.declared.limits.TheConstants.{LONGEST_DATAGRAM}
use Rattle.mesh_io.specs.Airs.{Report}
use Rattle.mesh_io.specs.Airs.Report.{Attached_to, Heard_frame, Heard_silence, Heard_fault, Handed}
use Rattle.mesh_io.specs.declared.air_room.AirFails.{AirFails}
use Rattle.mesh_io.specs.declared.air_room.AirRoom.{AirRoom}
use Rattle.mesh_io.specs.declared.air_room.LoggedCall.{LoggedCall}
use Rattle.mesh_io.specs.declared.air_room.LoggedCall.TheVariants as entry
use Rattle.mesh_io.specs.declared.air_room.MemEar.{MemEar}
use Rattle.mesh_io.specs.declared.air_room.MemEar.TheVariants as ear
use Rattle.mesh_io.specs.declared.airs.Attached.{Attached}
use Rattle.mesh_io.specs.declared.airs.Attached.TheVariants as attached
use Rattle.mesh_io.specs.declared.airs.Sent.{Sent}
use Rattle.mesh_io.specs.declared.airs.Sent.TheVariants as sent
use Rattle.mesh_io.specs.Faults.{one_more}
use Rattle.mesh_io.specs.Memory.{fails_at}

-- What is heard

-- the ear of a script at that place: none where the script is used up, or where there is no script
abbrev pub ear_in : Option (List MemEar) → ℕ → Option MemEar
ear_in None place = None
ear_in (Some script) place = slice_get script place

-- the ear of an interface's script at a place
abbrev pub ear_at : List (List MemEar) → ℕ → ℕ → Option MemEar
ear_at scripts iface place = ear_in (slice_get scripts iface) place

-- the ear that an interface has next, where so many of each script were heard
abbrev pub next_ear : List (List MemEar) → List ℕ → ℕ → Option MemEar
next_ear scripts places iface = ear_at scripts iface (slice_index_or places iface 0)

-- what is told of an ear of a script; without one an interface is silent
abbrev pub told_ear : ℕ → Option MemEar → Report
told_ear iface None = Heard_silence iface
told_ear iface (Some ear.Silence) = Heard_silence iface
told_ear iface (Some (ear.Frame sender bytes)) = Heard_frame iface sender (take LONGEST_DATAGRAM bytes)

-- how many of each script were heard, where an interface took one more
abbrev pub one_further : List ℕ → ℕ → Option MemEar → List ℕ
one_further places iface heard = if is_some heard then slice_set places iface (slice_index_or places iface 0 + 1) else places

-- one more is told, where anything is
abbrev pub told_more : Option (List Report) → Report → Option (List Report)
told_more None report = None
told_more (Some reports) report = Some (reports ++ report ∷ [])

-- For what there is room

-- there is room for an attach with so many peers
abbrev pub has_room_for_attach : AirRoom → ℕ → Bool
has_room_for_attach left peers = nat_lt 0 left.attaches && nat_le peers left.peers

-- there is room for an ear
abbrev pub has_room_for_ear : AirRoom → Bool
has_room_for_ear left = nat_lt 0 left.ears

-- there is room for a frame of so many octets
abbrev pub has_room_for_frame : AirRoom → ℕ → Bool
has_room_for_frame left octets = nat_lt 0 left.frames && nat_le octets left.octets

-- the room that is left behind an attach with so many peers
abbrev pub after_attach : AirRoom → ℕ → AirRoom
after_attach left peers = record left { attaches = left.attaches - 1; peers = left.peers - peers }

-- behind an ear
abbrev pub after_ear : AirRoom → AirRoom
after_ear left = record left { ears = left.ears - 1 }

-- behind a frame of so many octets
abbrev pub after_frame : AirRoom → ℕ → AirRoom
after_frame left octets = record left { frames = left.frames - 1; octets = left.octets - octets }

-- What is kept

-- so many that lie in a store
abbrev pub lying : {A : Type 0} → List A → ℕ → ℕ → List A
lying store from count = take count (drop from store)

-- what an entry tells
abbrev pub report_of : List (List MemEar) → List Endpoint → List ℕ → LoggedCall → Report
report_of scripts peers octets (entry.Attached local from count) = Attached_to local (lying peers from count)
report_of scripts peers octets (entry.Heard iface place) = told_ear iface (ear_at scripts iface place)
report_of scripts peers octets (entry.Fault iface) = Heard_fault iface
report_of scripts peers octets (entry.Handed iface from count answer) = Handed iface (lying octets from count) answer

-- what an entry names lies in the stores
abbrev pub Lies : ℕ → ℕ → LoggedCall → Type 0
Lies peers octets (entry.Attached local from count) = from + count ≤ peers
Lies peers octets (entry.Heard iface place) = Unit {0}
Lies peers octets (entry.Fault iface) = Unit {0}
Lies peers octets (entry.Handed iface from count answer) = from + count ≤ octets

-- the same of all entries
abbrev pub AllLie : ℕ → ℕ → List LoggedCall → Type 0
AllLie peers octets [] = Unit {0}
AllLie peers octets (e ∷ es) = Lies peers octets e × AllLie peers octets es

-- all that is kept lies in the stores, which have room for what is left
pub record IsRoomy (entries : List LoggedCall) (peers octets : ℕ) (capacity peer_capacity octet_capacity attached : ℕ) (left : AirRoom) :
    Type 0 where
  pub lie : AllLie peers octets entries
  pub entries_fit : left.attaches + left.ears + left.frames + length entries ≤ capacity
  pub peers_fit : left.peers + peers ≤ peer_capacity
  pub octets_fit : left.octets + octets ≤ octet_capacity
  pub attached_fit : attached + left.attaches < 2 ^ 64

-- what an air in memory keeps: how many interfaces are attached, what it told, the scripts and how many of each were heard, and the
-- room that is left
pub record LogState : Type 0 where
  pub attached : ℕ
  pub told : Option (List Report)
  pub scripts : List (List MemEar)
  pub places : List ℕ
  pub left : AirRoom

-- behind an attach that was told
abbrev pub with_attach : LogState → Endpoint → List Endpoint → LogState
with_attach log local peers = record log {
  attached = log.attached + 1;
  told = told_more log.told (Attached_to local peers);
  left = after_attach log.left (length peers);
}

-- behind an ear that was told, where so many of each script were heard then
abbrev pub with_ear : LogState → Report → List ℕ → LogState
with_ear log report places = record log { told = told_more log.told report; places = places; left = after_ear log.left }

-- behind a frame that was told, with the answer to it
abbrev pub with_frame : LogState → ℕ → List ℕ → Sent → LogState
with_frame log iface bytes answer = record log {
  told = told_more log.told (Handed iface bytes answer);
  left = after_frame log.left (length bytes);
}

-- behind a call for which there was no room
abbrev pub with_nothing_told : LogState → LogState
with_nothing_told log = record log { told = None }

-- an air in memory: what it keeps, how many calls of each kind there were, which of them fail, and how many faults there were
pub record AirState : Type 0 where
  pub log : LogState
  pub attaches : ℕ
  pub hears : ℕ
  pub sends : ℕ
  pub fails : AirFails
  pub faults : ℕ

-- the calls

-- an attach fails where it is to, or where there is no room for it
abbrev pub refuses_attach : AirState → ℕ → Bool
refuses_attach a peers = fails_at a.fails.attach (one_more a.attaches) || not (has_room_for_attach a.log.left peers)

-- an attach is counted; where it isn't refused, it makes an interface and is told, and else it is a fault
pub record IsAttached (old : AirState) (local : Endpoint) (peers : List Endpoint) (new : AirState) (answer : Attached) : Type 0 where
  pub answer_is : answer ≡ (if refuses_attach old (length peers) then attached.Failed else attached.Done)
  pub state : new ≡ (if refuses_attach old (length peers)
      then record old { attaches = one_more old.attaches; faults = one_more old.faults }
      else record old { attaches = one_more old.attaches; log = with_attach old.log local peers })

-- an ear fails where there is no room for it, and then nothing is told any more, or where it is to; else the script's next is given
pub record IsHeard (old : AirState) (iface : ℕ) (new : AirState) (heard : Report) : Type 0 where
  pub heard_is : heard ≡ (if not (has_room_for_ear old.log.left) || fails_at old.fails.hear (one_more old.hears)
      then Heard_fault iface else told_ear iface (next_ear old.log.scripts old.log.places iface))
  pub state : new ≡ (if not (has_room_for_ear old.log.left)
      then record old { hears = one_more old.hears; log = with_nothing_told old.log; faults = one_more old.faults }
      else if fails_at old.fails.hear (one_more old.hears)
      then record old {
        hears = one_more old.hears;
        log = with_ear old.log (Heard_fault iface) old.log.places;
        faults = one_more old.faults;
      }
      else record old {
        hears = one_more old.hears;
        log = with_ear old.log heard (one_further old.log.places iface (next_ear old.log.scripts old.log.places iface));
      })

-- a frame isn't sent where there is no room for it, and then nothing is told any more, or where the call is to fail
pub record IsSent (old : AirState) (iface : ℕ) (bytes : List ℕ) (new : AirState) (answer : Sent) : Type 0 where
  pub answer_is : answer ≡ (if not (has_room_for_frame old.log.left (length bytes)) || fails_at old.fails.send (one_more old.sends)
      then sent.Failed else sent.Done)
  pub state : new ≡ (if not (has_room_for_frame old.log.left (length bytes))
      then record old { sends = one_more old.sends; log = with_nothing_told old.log; faults = one_more old.faults }
      else if fails_at old.fails.send (one_more old.sends)
      then record old { sends = one_more old.sends; log = with_frame old.log iface bytes answer; faults = one_more old.faults }
      else record old { sends = one_more old.sends; log = with_frame old.log iface bytes answer })
