-- The text of a probe.
use Rattle.std.specs.Prelude.{◌≡◌, ◌≢◌, ℕ, ◌++◌, List, length, filter, Bool, not, nat_eq, codes, decimal}
use Rattle.std.specs.List.{flat_map, list_any}
use Rattle.mesh_atoms.specs.declared.settings.Scenario.{Scenario}
use Rattle.mesh_atoms.specs.Radio.{Joined}
use Rattle.mesh_machine.specs.Names.{router_name}
use Rattle.mesh_probe.specs.declared.coverage.Coverage.{Coverage}
use Rattle.mesh_probe.specs.declared.coverage.Probe.{Probe}
use Rattle.mesh_probe.specs.declared.coverage.Probe.TheVariants.{NoNumber, Done}
use Rattle.mesh_probe.specs.Probes.{ListsNumbers}

-- the other routers that are joined with the origin, in ascending order
abbrev pub ArePeers : Scenario → ℕ → List ℕ → Type 0
ArePeers s origin peers = ListsNumbers (λ z. (z ≢ origin) × Joined s origin z) peers

-- the router is among those that are reached
abbrev pub is_reached : Coverage → ℕ → Bool
is_reached c z = list_any (nat_eq z) c.reached

-- which router probes
abbrev pub probe_start : Scenario → ℕ → List ℕ
probe_start s origin = codes "probe " ++ router_name s.routers origin

-- with which number, how many of the peers it reached, and how many frames were sent
abbrev pub probe_counts : List ℕ → Coverage → List ℕ
probe_counts peers c =
    codes " number " ++ decimal c.number ++ codes " reached " ++ decimal (length (filter (is_reached c) peers))
    ++ codes " of " ++ decimal (length peers) ++ codes " sent " ++ decimal (length c.sends) ++ codes "\n"

-- a peer that isn't reached
abbrev pub unreached_line : Scenario → ℕ → List ℕ
unreached_line s z = codes "unreached " ++ router_name s.routers z ++ codes "\n"

-- a line that says how far it came, and one for each peer that isn't reached
abbrev pub probe_end : Scenario → List ℕ → Probe → List ℕ
probe_end s peers NoNumber = codes " none\n"
probe_end s peers (Done c) =
    probe_counts peers c ++ flat_map (unreached_line s) (filter (λ z. not (is_reached c z)) peers)

-- the text of a probe of router `origin`
abbrev pub IsProbeText : Scenario → ℕ → Probe → List ℕ → Type 0
IsProbeText s origin probe text =
    (peers : List ℕ) × ArePeers s origin peers × (text ≡ probe_start s origin ++ probe_end s peers probe)
