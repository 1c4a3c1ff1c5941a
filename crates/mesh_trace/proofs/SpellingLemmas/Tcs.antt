-- What a reading of a TC looks at, and what octets may be sent for one.
use Rattle.mesh_trace.proofs.Common.{arith, ◌≡◌, ℕ, List, None, common_steps, NetAddr, Tc, MessageFields, TlvFields, HasPart, Keeps, IsReadOfTcAddress, WritesTc, LooksTc, TellsOnly, SaysTc}
use Rattle.mesh_wire.specs.TcRules.{BreaksTc, AddressWidth}
use Rattle.mesh_trace.proofs.SpellingLemmas.Hellos.{four_octets}
use Rattle.mesh_trace.proofs.SpellingLemmas.OneMessage.{IsSole}

pub tc_width : (m : MessageFields) → Keeps (BreaksTc m) → m.width ≡ 4
tc_width m keeps = four_octets m.width (λ not. keeps _ None (AddressWidth not))

pub parts_read : (m : MessageFields) → TellsOnly LooksTc m → (net : NetAddr) (part : TlvFields) → HasPart m net part → IsReadOfTcAddress part
parts_read m tells net part p = let looks = tells net part p in record { kind = looks.1; ext = looks.0 }

pub parts_looked : (m : MessageFields) → ((net : NetAddr) (part : TlvFields) → HasPart m net part → IsReadOfTcAddress part) → TellsOnly LooksTc m
parts_looked m read net part p = let r = read net part p in (r.ext, r.kind)

pub writes_of : (tc : Tc) (hop_limit : ℕ) (validity bytes : List ℕ) → IsSole (SaysTc tc hop_limit validity) bytes → WritesTc tc hop_limit validity bytes
writes_of tc hop_limit validity bytes (m, packet, says) = grind (arith, common_steps)

pub sole_of : (tc : Tc) (hop_limit : ℕ) (validity bytes : List ℕ) → WritesTc tc hop_limit validity bytes → IsSole (SaysTc tc hop_limit validity) bytes
sole_of tc hop_limit validity bytes w = grind (arith, common_steps)
