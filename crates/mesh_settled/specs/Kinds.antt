-- The kinds of keys in order, and the first gap.
use Rattle.std.specs.Prelude.{◌≡◌, ◌⊎◌, ℕ, List, Option, Some, None, IsTrue}
use Rattle.mesh_atoms.specs.declared.settings.Scenario.{Scenario}
use Rattle.mesh_atoms.specs.Settled.{At}
use Rattle.mesh_atoms.specs.State.{State}
use Rattle.mesh_settled.specs.declared.gaps.found.Found.{Found}
use Rattle.mesh_atoms.specs.declared.gap.Gap.{Gap}
use Rattle.mesh_atoms.specs.declared.gap.GapKey.{GapKey}
use Rattle.mesh_settled.specs.declared.gaps.topics.TopologyKind.TheVariants.{Routers, Addresses, Networks}
use Rattle.mesh_settled.specs.Gaps.Found.{IsGap}
use Rattle.mesh_settled.specs.Gaps.Gaps.{Look, look, AreSame, HasNoGap, IsFirstGap, rank_of, is_ranked_before, gap_kind}
use Rattle.mesh_settled.specs.Gaps.Topics.{IsTopicKey}

-- a key of a topology tuple
abbrev pub IsTopologyKey : GapKey → Type 0
IsTopologyKey k = IsTopicKey Routers k ⊎ (IsTopicKey Addresses k ⊎ IsTopicKey Networks k)

-- the first gap of router x, if it has any
abbrev pub IsFirstFound : Look → Option Found → Type 0
IsFirstFound l None = HasNoGap l
IsFirstFound l (Some f) = IsGap l f × ((key : GapKey) → IsTrue (is_ranked_before (rank_of key) (rank_of f.key)) → AreSame l key)

-- what is found at router x, as a gap of the network
abbrev pub reported : ℕ → Option Found → Option Gap
reported x None = None
reported x (Some f) = Some (record { router = x; kind = gap_kind f.key; key = f.key; held = f.held; present = f.present })

-- the same for router x of a network
abbrev pub IsFirstAt : Scenario → List State → ℕ → ℕ → Option Gap → Type 0
IsFirstAt s states now x None = (p : State) → At states x p → HasNoGap (look s states now x p)
IsFirstAt s states now x (Some g) =
    (f : Found) × (Some g ≡ reported x (Some f)) × (p : State) × At states x p × IsFirstFound (look s states now x p) (Some f)

-- the first gap of a network, if it has any
abbrev pub IsFirstOf : Scenario → List State → ℕ → Option Gap → Type 0
IsFirstOf s states now None = (x : ℕ) (p : State) → At states x p → HasNoGap (look s states now x p)
IsFirstOf s states now (Some g) =
    IsFirstGap s states now g × ((p : State) → At states g.router p → AreSame (look s states now g.router p) g.key → ⊥)
