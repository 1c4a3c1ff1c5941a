-- What holds of the frames in the air.
use Rattle.mesh_radio.proofs.Common.{ℕ, ◌<◌, ◌≤◌, List, length, arith, All, map, All-weaker, RadioArc, RouterSettings, Scenario, IsSendable, Emission, Traffic, Delivery, SendsAll, leaving, frame_of, IsFlying, all_turned, flies_by, sent_all, numbered}

-- what flew before still flies, where it is heard no earlier than now
pub still_flying : (s : Scenario) (earlier now : ℕ) (air : List Delivery) → All (IsFlying s earlier) air → All (λ d. now ≤ d.moment) air → All (IsFlying s now) air
still_flying s earlier now air h late k d lt = let was = h k d lt in record { later = late k d lt; arc = was.arc; packet = was.packet }

-- what is sent flies
pub sent_flying : (s : Scenario) (now x : ℕ) (settings : RouterSettings) (sent : List Emission) (old new : Traffic) → All (IsSendable settings) (map frame_of sent) →
    SendsAll s now x sent old new → All (IsFlying s now) old.air → All (IsFlying s now) new.air
sent_flying s now x settings sent old new may sends h =
    let flies : (e : Emission) → IsSendable settings (frame_of e) → All (λ a. IsFlying s now (flies_by now e.frame a)) (leaving s.arcs x e.iface) = λ e is.
    All-weaker (λ (a : ℕ × RadioArc). a.0 < length s.arcs) (λ (a : ℕ × RadioArc). IsFlying s now (flies_by now e.frame a)) (λ a below. record { later = omega arith; arc = below; packet = is.packet })
    (leaving s.arcs x e.iface) (numbered s.arcs x e.iface) in
    sent_all (IsFlying s now) s now x sent old new
    (All-weaker (λ (e : Emission). IsSendable settings (frame_of e)) (λ (e : Emission). All (λ a. IsFlying s now (flies_by now e.frame a)) (leaving s.arcs x e.iface)) flies sent (all_turned (IsSendable settings) frame_of sent may))
    sends h
