-- Octets spell one packet or have one first fault, since each is what the reading of the octets gives.
use Rattle.mesh_packet.proofs.Common.{◌≡◌, ℕ, ◌⊎◌, inl, inr, List, Result, Ok, Err, ap, arith, MatchResult, common_steps, Refusal, Span, PacketFields, Spells, FirstFault, packet_of}
use Rattle.mesh_atoms.proofs.Options.{same_ok, ok_not_err}
use Rattle.mesh_packet.proofs.Packets.{IsFault, IsSpelled, packet_takes, packet_again, packet_fault}

-- what a reading of the octets gives
abbrev Read : Type 0
Read = Result (PacketFields × List Span) Refusal

err_same : (r : Read) (x y : Refusal) → r ≡ Err x → r ≡ Err y → x ≡ y
err_same r x y h k = cc

pub one_packet : (frame : List ℕ) (p q : PacketFields) (here there : List Span) → Spells p here frame → Spells q there frame → (p ≡ q) × (here ≡ there)
one_packet frame p q here there h k =
    let e = same_ok {a = (p, here)} {b = (q, there)} (packet_again frame p here h) (packet_again frame q there k) in
    (ap (λ (x : PacketFields × List Span). x.0) e, ap (λ (x : PacketFields × List Span). x.1) e)

pub one_fault : (frame : List ℕ) (place reason other why : ℕ) → FirstFault frame place reason → FirstFault frame other why → (place ≡ other) × (reason ≡ why)
one_fault frame place reason other why h k = grind (arith, common_steps, err_same, packet_fault)

pub spells_or_faults : (frame : List ℕ) → ((packet : PacketFields) × (spans : List Span) × Spells packet spans frame) ⊎ ((place : ℕ) × (reason : ℕ) × FirstFault frame place reason)
spells_or_faults frame = by (packet_of frame) (packet_takes frame) where
  by : (r : Result (PacketFields × List Span) Refusal) → MatchResult r (IsSpelled frame) (IsFault frame) → ((packet : PacketFields) × (spans : List Span) × Spells packet spans frame) ⊎ ((place : ℕ) × (reason : ℕ) × FirstFault frame place reason)
  by (Ok x) h = inl (x.0, x.1, h)
  by (Err e) h = inr (e.place, e.reason, h)

pub not_both : (frame : List ℕ) (packet : PacketFields) (spans : List Span) (place reason : ℕ) → Spells packet spans frame → FirstFault frame place reason → ⊥
not_both frame packet spans place reason h k = ok_not_err (packet_again frame packet spans h) (packet_fault frame place reason k)
