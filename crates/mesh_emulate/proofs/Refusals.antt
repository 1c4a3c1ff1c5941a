-- What is refused isn't emulated.
use Rattle.mesh_emulate.proofs.Common.{◌≡◌, ℕ, List, Option, Some, None, subst, Scenario, State, none_not, refusals, IsPacketSent, IsProbed, TellsWanted, Emulation, IsRefused, By_settings, By_name, WantedPacket, Wants, IsNamed, start_of, FirstUnknown, Of_send, Of_probe, fault, first}

-- what is told is of routers that have the names
start_named : (s : Scenario) (states : List State) (send : Option WantedPacket) (text name : List ℕ) → TellsWanted (IsPacketSent s states) send text → start_of send ≡ Some name → (x : ℕ) × IsNamed s name x
start_named s states (Some packet) text name told e =
    let same : packet.from ≡ name = cc in (told.from, subst (λ (n : List ℕ). IsNamed s n told.from) same told.named)
start_named s states None text name told e = let bad : ⊥ = cc in absurd bad

origin_named : (s : Scenario) (states : List State) (probe : Option (List ℕ)) (text name : List ℕ) → TellsWanted (IsProbed s states) probe text → probe ≡ Some name → (x : ℕ) × IsNamed s name x
origin_named s states (Some other) text name told e =
    let same : other ≡ name = cc in (told.origin, subst (λ (n : List ℕ). IsNamed s n told.origin) same told.named)
origin_named s states None text name told e = let bad : ⊥ = cc in absurd bad

not_unknown : (input : List ℕ) (wants : Wants) (e : Emulation input wants) (number : ℕ) (key : List ℕ) → FirstUnknown e.scenario wants number key → ⊥
not_unknown input wants e number key (Of_send (name, wanted, u)) =
    let (x, named) = start_named e.scenario e.run.final.routers wants.send e.trip name e.is_trip wanted in u.none x named
not_unknown input wants e number key (Of_probe known (name, wanted, u)) =
    let (x, named) = origin_named e.scenario e.run.final.routers wants.probe e.probe name e.is_probe wanted in u.none x named

pub emulated_not_refused : (input : List ℕ) (wants : Wants) → Emulation input wants → (number : ℕ) (key : List ℕ) → IsRefused input wants number key → ⊥
emulated_not_refused input wants e number key (By_settings refused) = none_not {o = first (refusals input)} {a = fault number key} e.stated.clear refused
emulated_not_refused input wants e number key (By_name scenario stated unknown) = not_unknown input wants e number key (unknown e.scenario e.stated)
