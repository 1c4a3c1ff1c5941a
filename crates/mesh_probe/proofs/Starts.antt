-- A flood of a TC begins as the message of a wave.
use Rattle.mesh_probe.proofs.Common.{◌≡◌, ℕ, zero, suc, ◌<◌, refl, sym, ◌∙◌, ap, subst, arith, List, length, slice_index_or, slice_get, common_steps, AllPairs, Scenario, Tc, At, AreStates, State, MessageFields, IsSettledNetwork, on_each, Transmission, sent_by, IsTcOf, AreUnknown, AreSentApart}
use Rattle.mesh_wire.proofs.EachDistance.{kept_on}
use Rattle.mesh_probe.proofs.Carried.{Carries, at_hop}
use Rattle.mesh_probe.proofs.Seen.{faces_in}
use Rattle.mesh_probe.proofs.Simulate.{IsFlooded, Matches, No_frames, A_frame, on_each_matches}
use Rattle.mesh_probe.proofs.Wave.{Going, IsApart, frames_on}

first_carried : (p : State) (tc : Tc) (limit : ℕ) (bytes : List ℕ) → (is : IsTcOf p tc limit bytes) → Carries (at_hop is.writes.message limit 0) bytes
first_carried p tc limit bytes is = grind (arith, common_steps, at_hop)

module _ (s : Scenario) (states : List State) (now origin : ℕ) (tc : Tc) (limit : ℕ) (Prem : Type 0) (routers : AreStates s states)
    (settled : Prem → IsSettledNetwork s states now) (unknown : Prem → AreUnknown states tc) (p : State) (at : At states origin p) (bytes : List ℕ)
    (is : IsTcOf p tc limit bytes) where
  pub flooded : IsFlooded s states now origin tc is.writes.message limit Prem
  flooded = record {
    octet = is.octet;
    kind = is.writes.kind;
    originator = is.writes.reads.originator;
    sequence = is.writes.reads.sequence;
    keeps = kept_on tc limit is.validity bytes is.writes is.times;
    routers = routers;
    settled = settled;
    unknown = unknown;
    first = p;
    at = at;
    own = is.own;
  }

  -- the first frames
  pub queue : Matches flooded (sent_by origin (on_each (length p.settings.interfaces) bytes)) (frames_on origin 0 (faces_in (slice_get s.routers origin)))
  queue =
      let count : length p.settings.interfaces ≡ faces_in (slice_get s.routers origin) = sym (ap faces_in (routers.settings origin p at)) in
      let first = on_each_matches flooded origin 0 (length p.settings.interfaces) bytes (first_carried p tc limit bytes is) in
      subst (λ (n : ℕ). Matches flooded (sent_by origin (on_each (length p.settings.interfaces) bytes)) (frames_on origin 0 n)) count first

module _ {s : Scenario} {states : List State} {now origin : ℕ} {tc : Tc} {m : MessageFields} {limit : ℕ} {Prem : Type 0} (G : IsFlooded s states now origin tc m limit Prem) where
  lengths : {fs : List Transmission} {gs : List Going} → Matches G fs gs → length gs ≡ length fs
  lengths No_frames = refl
  lengths (A_frame hops carries rest) = ap suc (lengths rest)

  place : {fs : List Transmission} {gs : List Going} → Matches G fs gs → (k : ℕ) (d : Transmission) (e : Going) → k < length fs →
      ((slice_index_or gs k e).from ≡ (slice_index_or fs k d).router) × ((slice_index_or gs k e).iface ≡ (slice_index_or fs k d).frame.iface)
  place No_frames k d e l = absurd (omega arith)
  place (A_frame hops carries rest) zero d e l = (refl, refl)
  place (A_frame hops carries rest) (suc k) d e l = place rest k d e (omega arith)

  -- frames are apart as those of the wave are
  pub sent_apart : {fs : List Transmission} {gs : List Going} → Matches G fs gs → AllPairs IsApart gs → AllPairs AreSentApart fs
  sent_apart frames apart i j d l n from at =
      let e : Going = record { from = 0; iface = 0; hops = 0 } in
      let a = place frames i d e (omega (arith, l, n)) in
      let b = place frames j d e n in
      let size = lengths frames in
      apart i j e l (omega (arith, n, size)) (a.0 ∙ from ∙ sym b.0) (a.1 ∙ at ∙ sym b.1)
