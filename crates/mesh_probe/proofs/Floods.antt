-- The laws of a flood.
use Rattle.mesh_probe.proofs.Common.{◌≡◌, ℕ, ◌<◌, ◌≤◌, inl, inr, sym, subst, List, [], ◌∷◌, length, Contains, AllPairs, slice_get_within, Scenario, Tc, Joined, Itself, By, AreStates, State, MessageFields, IsSettledNetwork, Transmission, hearers_of, FloodOf, AreUnknown, AllWillFlood, FloodReaches, FloodSendsOnce, AreSentApart}
use Rattle.mesh_probe.proofs.Wave.{Going, Net, Chain, On, IsCovering, Spread}
use Rattle.mesh_probe.proofs.Wave as wave
use Rattle.mesh_probe.proofs.Covers.{wave_reaches}
use Rattle.mesh_probe.proofs.Once.{wave_sends_once}
use Rattle.mesh_probe.proofs.Relaying.{settled_covers}
use Rattle.mesh_probe.proofs.Starts.{flooded, queue, sent_apart}
use Rattle.mesh_probe.proofs.Simulate.{IsFlooded, net, Matches, opens, simulate, at_place}

module _ (s : Scenario) (states : List State) (now origin : ℕ) (tc : Tc) (limit : ℕ) (heard : List Transmission) (new : List State) (Prem : Type 0) (routers : AreStates s states)
    (settled : Prem → IsSettledNetwork s states now) (unknown : Prem → AreUnknown states tc) (f : FloodOf s states now origin tc limit heard new) where
  abbrev m : MessageFields
  m = f.tc_is.writes.message

  abbrev G : IsFlooded s states now origin tc m limit Prem
  G = flooded s states now origin tc limit Prem routers settled unknown f.p f.at f.bytes f.tc_is

  abbrev its : Net
  its = net G

  abbrev Fit : List Transmission → List Going → Type 0
  Fit = Matches G

  record Its : Type 0 where
    pub after : Spread
    pub all_heard : List Going
    pub is_wave : wave.WaveFrom its origin after all_heard
    pub frames : Fit heard all_heard

  the_wave : Its
  the_wave =
      let start : Spread = record { told = origin ∷ []; sent = origin ∷ [] } in
      let first = queue s states now origin tc limit Prem routers settled unknown f.p f.at f.bytes f.tc_is in
      let w = simulate G start (opens G) first f.flood in
      record { after = w.after; all_heard = w.all_heard; is_wave = w.is_wave; frames = w.frames }

  covers : Prem → AllWillFlood s → length s.routers ≤ limit → IsCovering its
  covers prem willing enough =
      let good = settled_covers s states now (settled prem) willing limit enough in
      record {
        linked = λ x i w j flag holds. good.linked x i w j flag (holds prem);
        deaf = λ x i w j holds link. good.deaf x i w j (holds prem) link;
        heard = good.heard;
        routers = good.routers;
        faces = good.faces;
        hops = λ h room. (prem, good.hops h room);
        covered = λ x i v j k z l a b other. elim (good.covered x i v j k z l a b other) [
          | inl direct ↦ inl direct
          | inr relayed ↦ (let (w, j, k, n, c, d, chosen) = relayed in inr (w, j, k, n, c, d, λ j flag holds. chosen j flag (holds prem)))
        ];
      }

  chain : {z : ℕ} → Joined s origin z → Chain its origin z
  chain Itself = wave.Itself
  chain (By way (i, j, there, home, joins)) = On (chain way) (there, home, joins)

  reached : Prem → AllWillFlood s → length s.routers ≤ limit → (z : ℕ) → Joined s origin z → (z ≡ origin → ⊥) →
      (g : Transmission) × (j : ℕ) × Contains heard g × Contains (hearers_of s.arcs g.router g.frame.iface) (z, j)
  reached prem willing enough z joined other =
      let w = the_wave in
      let good = covers prem willing enough in
      let inside : origin < length s.routers = slice_get_within s.routers origin f.p.settings (routers.settings origin f.p f.at) in
      let (g, j, stands, link) = wave_reaches its good origin inside w.after w.all_heard w.is_wave z (chain joined) other in
      let (h, h_stands, from, at) = at_place G w.frames g stands in (
        h,
        j,
        h_stands,
        subst (λ (x : ℕ). Contains (hearers_of s.arcs x h.frame.iface) (z, j)) (sym from)
            (subst (λ (i : ℕ). Contains (hearers_of s.arcs g.from i) (z, j)) (sym at) (good.heard g.from g.iface z j link)),
      )

  once : AllPairs AreSentApart heard
  once = let w = the_wave in sent_apart G w.frames (wave_sends_once its origin w.after w.all_heard w.is_wave)

pub flood_reaches : FloodReaches
flood_reaches s states now origin tc limit heard new S willing enough unknown f z joined other =
    reached s states now origin tc limit heard new (IsSettledNetwork s states now × AreUnknown states tc) S.routers (λ p. p.0) (λ p. p.1) f (S, unknown) willing enough z joined other

pub flood_sends_once : FloodSendsOnce
flood_sends_once s states now origin tc limit heard new routers f =
    once s states now origin tc limit heard new ⊥ routers (λ p. absurd p) (λ p. absurd p) f
