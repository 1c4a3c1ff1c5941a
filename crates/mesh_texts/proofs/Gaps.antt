-- The first gap of a network at its end, or none where it is settled.
use Rattle.mesh_texts.proofs.Common.{arith, common_steps, ◌≡◌, ℕ, ◌↔◌, List, Option, None, IsNone, IfSome, Scenario, Settled, State, Gap, IsGapOf}
use Rattle.mesh_settled.specs.Gaps.Gaps.{IsFirstGap}

pub gap_is : (s : Scenario) (states : List State) (now : ℕ) (gap : Option Gap) → IsNone gap ↔ Settled s states now →
    IfSome gap (IsFirstGap s states now) → IsGapOf s states now gap
gap_is s states now gap none first = grind (arith, common_steps)

pub no_gap : (s : Scenario) (states : List State) (now : ℕ) (gap : Option Gap) → IsGapOf s states now gap →
    (gap ≡ None) ↔ Settled s states now
no_gap s states now gap is = grind (arith, common_steps)
