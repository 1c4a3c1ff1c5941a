-- Where the ways to a neighbour's addresses begin.
use Rattle.std.specs.Prelude.{ℕ, ◌<◌, List, All}
use Rattle.mesh_relay.specs.declared.greedy.Own.{Own}

-- each entry names one of so many ways
abbrev pub AreBelow : ℕ → List Own → Type 0
AreBelow n owns = All (λ o. o.begin < n) owns
