-- Scenarios that are made.
use Rattle.std.specs.Prelude.{◌≡◌, ℕ, ◌+◌, ◌-◌, ◌*◌, ◌%◌, List, [], ◌∷◌, ◌++◌, length, map, All, Some, codes, decimal, slice_get}
use Rattle.mesh_atoms.specs.Codes.Codes.{metric_value}
use Rattle.mesh_atoms.specs.declared.addr.Addr4.{Addr4}
use Rattle.mesh_atoms.specs.declared.settings.RadioArc.{RadioArc}
use Rattle.mesh_atoms.specs.declared.settings.RouterSettings.{RouterSettings}
use Rattle.mesh_atoms.specs.declared.settings.Scenario.{Scenario}
use Rattle.mesh_config.specs.Fields.{interface_fields, thresholds_of}
use Rattle.mesh_config.specs.Senders.{HaveAllSenders, addr_lists, with_steps, HaveAllQualities}
use Rattle.mesh_emulate.specs.declared.making.pairs.RouterPair.{RouterPair}
use Rattle.mesh_emulate.specs.Making.Pairs.{ArePairs, word}
use Rattle.mesh_config.specs.Stated.Router.{InterfaceFields, router_fields, ArePlainFields}
use Rattle.mesh_config.specs.Stated.Rules.{plain_thresholds}
use Rattle.mesh_config.specs.Stated.Times.{TimesIs}
use Rattle.mesh_emulate.specs.declared.making.kind.Kind.{Kind}
use Rattle.mesh_emulate.specs.declared.making.kind.Kind.TheVariants as kind
use Rattle.toml.specs.Data.{no_members}

-- Arcs

-- the cost of the arc of that number: 1, or from 1 to 20 by a word of its own behind those of the pairs
abbrev pub cost : Kind → ℕ → ℕ → ℕ → ℕ
cost kind.Random n seed number = 1 + word seed (n - 1 + 2 * n + number) % 20
cost other n seed number = 1

-- so many frames of a thousand are lost
abbrev pub loss_of : Kind → ℕ
loss_of kind.Random = 50
loss_of other = 0

-- the arc of that number, from a router to another; its delay is 1 ms
pub record IsMadeArc (k : Kind) (n seed number from to : ℕ) (arc : RadioArc) : Type 0 where
  pub leaves : arc.from ≡ from
  pub leaves_iface : arc.from_iface ≡ 0
  pub reaches : arc.to ≡ to
  pub reaches_iface : arc.to_iface ≡ 0
  pub metric : metric_value arc.metric ≡ cost k n seed number
  pub loss : arc.loss ≡ loss_of k
  pub delay : arc.delay ≡ 9

-- the arcs of pairs, the first of that number: of each pair from its lower router to its higher one, and then back
abbrev pub AreMadeArcs : Kind → ℕ → ℕ → ℕ → List RouterPair → List RadioArc → Type 0
AreMadeArcs k n seed number [] arcs = arcs ≡ []
AreMadeArcs k n seed number (p ∷ pairs) (there ∷ back ∷ arcs) =
    IsMadeArc k n seed number p.low p.high there × IsMadeArc k n seed (number + 1) p.high p.low back
    × AreMadeArcs k n seed (number + 2) pairs arcs
AreMadeArcs k n seed number (p ∷ pairs) other = ⊥

-- Routers

-- m and the number
abbrev pub name_of : ℕ → List ℕ
name_of i = codes "m" ++ decimal i

-- 10.0.0.(i+1)
abbrev pub addr_of : ℕ → Addr4
addr_of i = record { 0 = 167772161 + i }

-- the interface w0
abbrev pub face_of : ℕ → InterfaceFields
face_of i = record { interface_name = codes "w0"; addrs = addr_of i ∷ [] }

-- router i: it has one interface, and all else is as where it isn't stated
pub record IsMadeRouter (i : ℕ) (r : RouterSettings) : Type 0 where
  pub fields : ArePlainFields (name_of i) (router_fields r)
  pub times : TimesIs no_members r.times
  pub interfaces : map interface_fields r.interfaces ≡ face_of i ∷ []
  pub thresholds : All (λ f. thresholds_of f ≡ plain_thresholds) r.interfaces
  pub attached : r.attached ≡ []

-- The scenario

-- the scenario of n routers that is made by a seed: it ends after 60,000 ms, and frames may be lost before 20,000 ms
pub record IsMade (k : Kind) (n seed : ℕ) (s : Scenario) : Type 0 where
  pub end : s.end ≡ 491520
  pub loss_until : s.loss_until ≡ Some 163840
  pub seed_is : s.seed ≡ seed
  pub count : length s.routers ≡ n
  pub routers : (i : ℕ) (r : RouterSettings) → slice_get s.routers i ≡ Some r → IsMadeRouter i r
  pub senders : HaveAllSenders (addr_lists s.routers) s.arcs 0 s.routers
  pub qualities : HaveAllQualities (addr_lists s.routers) (with_steps s.arcs []) 0 s.routers
  pub pairs : List RouterPair
  pub are_pairs : ArePairs k n seed pairs
  pub arcs : AreMadeArcs k n seed 0 pairs s.arcs
