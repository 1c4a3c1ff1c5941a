-- The frames of an emulated network: how they go out on arcs, where they are lost, and in which order they are heard.
use Rattle.std.specs.Prelude.{◌≡◌, ℕ, ◌+◌, ◌%◌, ◌^◌, ◌<◌, ◌≤◌, ◌++◌, ◌∷◌, [], List, Option, All, IfSome, Bool, nat_eq, ◌&&◌}
use Rattle.std.specs.List.{filter, enumerate_from}
use Rattle.mesh_atoms.specs.declared.settings.RadioArc.{RadioArc}
use Rattle.mesh_atoms.specs.declared.settings.Scenario.{Scenario}
use Rattle.mesh_machine.specs.declared.frame.Frame.{Frame}
use Rattle.mesh_machine.specs.Draws.{word_of}
use Rattle.mesh_atoms.specs.declared.network.Counts.{Counts}
use Rattle.mesh_atoms.specs.declared.network.Emission.{Emission}

-- a frame in the air: when it is heard, the number of the arc by which it comes, and its octets
pub record Delivery : Type 0 where
  pub moment : ℕ
  pub arc : ℕ
  pub frame : List ℕ

-- what is in the air, in order of sending and then arc; what was counted; and how many draws were made
pub record Traffic : Type 0 where
  pub air : List Delivery
  pub counts : Counts
  pub draws : ℕ

-- one more; counts and draws go round at 2^64
abbrev pub next_count : ℕ → ℕ
next_count n = (n + 1) % 2 ^ 64

-- the frame that is sent
abbrev pub frame_of : Emission → Frame
frame_of e = record { iface = e.iface; bytes = e.frame }

-- Sending

-- the arc leaves interface i of router x
abbrev pub leaves : ℕ → ℕ → RadioArc → Bool
leaves x i arc = nat_eq arc.from x && nat_eq arc.from_iface i

-- the arcs that leave interface i of router x, each behind its number, in order
abbrev pub leaving : List RadioArc → ℕ → ℕ → List (ℕ × RadioArc)
leaving arcs x i = filter (λ a. leaves x i a.1) (enumerate_from 0 arcs)

-- draw k is word k of the seed's stream 0
abbrev pub draw : ℕ → ℕ → ℕ
draw seed k = word_of seed 0 k

-- frames may be lost: always, or before that moment
abbrev pub IsLossy : Option ℕ → ℕ → Type 0
IsLossy loss_until now = IfSome loss_until (λ until. now < until)

-- draw k loses what is sent now on the arc
abbrev pub IsLost : Scenario → ℕ → ℕ → RadioArc → Type 0
IsLost s now k arc = IsLossy s.loss_until now × (draw s.seed k % 1000 < arc.loss)

-- a frame is sent
abbrev pub with_sent : Traffic → Traffic
with_sent t = record t { counts = record t.counts { sent = next_count t.counts.sent } }

-- the next draw loses a frame
abbrev pub with_loss : Traffic → Traffic
with_loss t = record t { counts = record t.counts { lost = next_count t.counts.lost }; draws = next_count t.draws }

-- the next draw lets a frame through: it is in the air, behind all others
abbrev pub with_delivery : Traffic → Delivery → Traffic
with_delivery t d = record t { air = t.air ++ d ∷ []; draws = next_count t.draws }

-- a frame is heard, and these stay in the air
abbrev pub with_heard : Traffic → List Delivery → Traffic
with_heard t others = record t { air = others; counts = record t.counts { delivered = next_count t.counts.delivered } }

-- a frame goes out on these arcs in order, with one draw for each: there it is lost, or in the air for the arc's delay; and the
-- numbers of the arcs on which it is lost
pub data Spreads (s : Scenario) (now : ℕ) (frame : List ℕ) : List (ℕ × RadioArc) → List ℕ → Traffic → Traffic → Type 0 where
  No_arcs : {t : Traffic} → Spreads s now frame [] [] t t
  Loses : {n : ℕ} {arc : RadioArc} {arcs : List (ℕ × RadioArc)} {lost : List ℕ} {old new : Traffic} → IsLost s now old.draws arc →
      Spreads s now frame arcs lost (with_loss old) new → Spreads s now frame ((n, arc) ∷ arcs) (n ∷ lost) old new
  Carries : {n : ℕ} {arc : RadioArc} {arcs : List (ℕ × RadioArc)} {lost : List ℕ} {old new : Traffic} → ¬ IsLost s now old.draws arc →
      Spreads s now frame arcs lost (with_delivery old (record { moment = now + arc.delay; arc = n; frame = frame })) new →
      Spreads s now frame ((n, arc) ∷ arcs) lost old new

-- router x sends a frame: it counts once, and goes out on each arc that leaves its interface
abbrev pub Sends : Scenario → ℕ → ℕ → Emission → Traffic → Traffic → Type 0
Sends s now x e old new = Spreads s now e.frame (leaving s.arcs x e.iface) e.lost (with_sent old) new

-- router x sends these frames in order
abbrev pub SendsAll : Scenario → ℕ → ℕ → List Emission → Traffic → Traffic → Type 0
SendsAll s now x [] old new = new ≡ old
SendsAll s now x (e ∷ es) old new = (mid : Traffic) × Sends s now x e old mid × SendsAll s now x es mid new

-- Which frame is heard next

-- of what is in the air, the least moment, and there the first; the others stay
pub record IsHeardFirst (air : List Delivery) (d : Delivery) (others : List Delivery) : Type 0 where
  pub before : List Delivery
  pub behind : List Delivery
  pub whole : air ≡ before ++ d ∷ behind
  pub later : All (λ e. d.moment < e.moment) before
  pub no_earlier : All (λ e. d.moment ≤ e.moment) behind
  pub left : others ≡ before ++ behind
