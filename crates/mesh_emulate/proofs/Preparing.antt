-- What is known before the first event, from its parts.
use Rattle.mesh_emulate.proofs.Common.{arith, common_steps, ◌≡◌, refl, ◌<◌, ℕ, true, false, List, length, get_or, Option, Some, None, sym, ap, ◌∙◌, subst, codes, bytes_decides, slice_get_read, RouterSettings, Scenario, name_eq, same_some, Departure, States, IsRefused, By_name, WantedPacket, Wants, HasName, IsNamed, Agree, Departs, IsUnknownName, NamesUnknown, NamesKnown, start_of, FirstUnknown, Of_probe, fault, FailsAt, IfSettingRefused, ConfigFault}
use Rattle.mesh_emulate.proofs.Names.{unknown_as}

-- What is wanted, by numbers

-- where the packet's start is known
pub start_known : (s : Scenario) (send : Option WantedPacket) (departs : Option Departure) → Agree (Departs s) send departs → NamesKnown s (start_of send)
start_known s (Some packet) (Some departure) is name e =
    let same : packet.from ≡ name = cc in
    (departure.from, subst (λ (n : List ℕ). IsNamed s n departure.from) same is.0)
start_known s None None is name e = let bad : ⊥ = cc in absurd bad
start_known s None (Some departure) is name e = absurd is
start_known s (Some packet) None is name e = absurd is

-- Refusals

refused_by : (P Q : ℕ → List ℕ → Type 0) → ((number : ℕ) (key : List ℕ) → P number key → Q number key) → (e : ConfigFault) → IfSettingRefused P e → IfSettingRefused Q e
refused_by P Q by e is = grind (arith, common_steps)

-- no router has the name
pub is_unknown : (s : Scenario) (name option : List ℕ) (e : ConfigFault) → ((x : ℕ) → IsNamed s name x → ⊥) → FailsAt e (Some (fault 45 option)) →
    IfSettingRefused (IsUnknownName s name option) e
is_unknown s name option e none is = grind (arith, common_steps)

pub probe_refused : (s : Scenario) (wants : Wants) (e : ConfigFault) → NamesKnown s (start_of wants.send) → IfSettingRefused (NamesUnknown s wants.probe (codes "probe")) e → IfSettingRefused (FirstUnknown s wants) e
probe_refused s wants e known is = refused_by (NamesUnknown s wants.probe (codes "probe")) (FirstUnknown s wants) (λ number key u. Of_probe known u) e is

pub name_refused : (input : List ℕ) (wants : Wants) (s : Scenario) (e : ConfigFault) → States input s → IfSettingRefused (FirstUnknown s wants) e → IfSettingRefused (IsRefused input wants) e
name_refused input wants s e stated is =
    refused_by (FirstUnknown s wants) (IsRefused input wants) (λ number key u. By_name s stated (λ other it. unknown_as input s other stated it wants number key u)) e is

-- Names

pub named_here : (routers : List RouterSettings) (name : List ℕ) (x : ℕ) (router : RouterSettings) → router ≡ get_or routers x router → x < length routers →
    name_eq name router.name ≡ true → HasName routers name x
named_here routers name x router is within same = (router, slice_get_read routers (length routers) x router refl within is, sym ((bytes_decides name router.name).0 same))

pub named_otherwise : (routers : List RouterSettings) (name : List ℕ) (x : ℕ) (router : RouterSettings) → router ≡ get_or routers x router → x < length routers →
    name_eq name router.name ≡ false → HasName routers name x → ⊥
named_otherwise routers name x router is within other (r, at, same) =
    let here : r ≡ router = same_some at (slice_get_read routers (length routers) x router refl within is) in
    let yes : name_eq name router.name ≡ true = (bytes_decides name router.name).1 (sym same ∙ ap (λ (q : RouterSettings). q.name) here) in
    let e : true ≡ false = sym yes ∙ other in
    cc
