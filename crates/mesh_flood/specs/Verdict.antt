-- Whether a message is processed and forwarded.
use Rattle.std.specs.Prelude.{ℕ, Option, Some, None, length, Bool, true, false, if◌then◌else◌, nat_le, nat_eq, not, ◌||◌}
use Rattle.mesh_atoms.specs.declared.addr.Addr4.{Addr4}
use Rattle.mesh_atoms.specs.declared.tuples.FloodKey.{FloodKey}
use Rattle.mesh_atoms.specs.declared.tuples.Noted.{Noted}
use Rattle.mesh_atoms.specs.declared.tuples.Base.TheVariants.{Received, Forwarded}
use Rattle.mesh_atoms.specs.declared.limits.TheConstants.{MOST_TUPLES}
use Rattle.mesh_atoms.specs.Base.{Base, find, base_of, addr_eq, flood_eq}
use Rattle.mesh_atoms.specs.State.{NotedMessages}
use Rattle.mesh_flood.specs.declared.verdict.Heading.{Heading}
use Rattle.mesh_flood.specs.declared.verdict.Process.{Process}
use Rattle.mesh_flood.specs.declared.verdict.Process.TheVariants as process
use Rattle.mesh_flood.specs.declared.verdict.Forward.{Forward}
use Rattle.mesh_flood.specs.declared.verdict.Forward.TheVariants as forward

-- a message's key in the received, processed and forwarded sets (RFC 7181, section 11)
abbrev pub key_of : Heading → FloodKey
key_of heading = record { kind = heading.kind; originator = heading.originator; sequence = heading.sequence }

-- the answer at a tuple that stands, by its moment, else the other answer
abbrev pub if_noted : {A : Type 0} → Option (Noted × ℕ) → (ℕ → A) → A → A
if_noted None found other = other
if_noted (Some e) found other = found e.1

-- a set has 16,384 tuples
abbrev pub is_full : Base FloodKey Noted → Bool
is_full base = nat_le MOST_TUPLES (length base)

-- whether a message is processed, the first that holds (RFC 7181, section 14.2)
abbrev pub process_of : Addr4 → Heading → NotedMessages → Process
process_of own heading noted =
    if addr_eq heading.originator own then process.Own else
    if_noted (find flood_eq noted.processed (key_of heading)) (λ until. process.Done until)
    (if is_full noted.processed then process.Full else process.Do)

-- the hop limit is absent, or at most 1
abbrev pub is_last : Option ℕ → Bool
is_last None = true
is_last (Some limit) = nat_le limit 1

-- the hop count is 255
abbrev pub is_far : Option ℕ → Bool
is_far None = false
is_far (Some count) = nat_eq count 255

-- the message may take no further hop (RFC 7181, section 14)
abbrev pub has_no_hops : Heading → Bool
has_no_hops heading = is_last heading.limit || is_far heading.count

-- the answer by the selector flag of the sender's symmetric link, where there is one
abbrev pub if_linked : Option Bool → (Bool → Forward) → Forward
if_linked None answer = forward.NoSender
if_linked (Some selector) answer = answer selector

-- whether a message is forwarded, by the received set of its interface and the forwarded set
abbrev pub forward_by : Addr4 → Heading → Option Bool → Base FloodKey Noted → Base FloodKey Noted → Forward
forward_by own heading link received forwarded =
    if addr_eq heading.originator own then forward.Own else
    if_linked link (λ selector.
    if has_no_hops heading then forward.NoHops else
    if_noted (find flood_eq received (key_of heading)) (λ until. forward.Seen until)
    (if is_full received then forward.Full Received else
    if_noted (find flood_eq forwarded (key_of heading)) (λ until. forward.Done until)
    (if not selector then forward.NotSelector else
    if is_full forwarded then forward.Full Forwarded else forward.Do)))

-- whether a message of interface i is forwarded, the first that holds (RFC 7181, section 14.3)
abbrev pub forward_of : ℕ → Addr4 → Heading → Option Bool → NotedMessages → Forward
forward_of i own heading link noted = forward_by own heading link (base_of noted.received i) noted.forwarded

-- the answer comes after the received set was asked, so that the message is noted as received
abbrev pub is_received : Forward → Bool
is_received (forward.Done until) = true
is_received forward.NotSelector = true
is_received (forward.Full Forwarded) = true
is_received forward.Do = true
is_received other = false

-- the message is forwarded
abbrev pub is_forwarded : Forward → Bool
is_forwarded forward.Do = true
is_forwarded other = false
