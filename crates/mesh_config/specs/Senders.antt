-- The senders of the interfaces of a scenario.
use Rattle.std.specs.Prelude.{◌≡◌, ℕ, zero, suc, ◌+◌, List, [], ◌∷◌, map, true, nat_eq, ◌&&◌, Option, Some, None, if◌then◌else◌}
use Rattle.std.specs.List.{flat_map, slice_get}
use Rattle.mesh_atoms.specs.declared.addr.Addr4.{Addr4}
use Rattle.mesh_atoms.specs.declared.admit.QualityStep.{QualityStep}
use Rattle.mesh_atoms.specs.declared.codes.metric.Metric.{Metric}
use Rattle.mesh_atoms.specs.declared.settings.Interface.{Interface}
use Rattle.mesh_atoms.specs.declared.settings.RadioArc.{RadioArc}
use Rattle.mesh_atoms.specs.declared.settings.RouterSettings.{RouterSettings}
use Rattle.mesh_atoms.specs.declared.settings.SenderMetric.{SenderMetric}
use Rattle.mesh_atoms.specs.Base.{addr_eq}
use Rattle.mesh_atoms.specs.Literals.{◌>>=◌}
use Rattle.mesh_atoms.specs.Settings.{are_distinct, ends_eq}
use Rattle.mesh_config.specs.declared.stated.stated.StatedArc.{StatedArc}
use Rattle.mesh_config.specs.declared.stated.stated.StatedRouter.{StatedRouter}
use Rattle.mesh_config.specs.Stated.Steps.{quality_pair}
use Rattle.mesh_config.specs.Checks.Compared.{all_addrs, ends_of}

-- the addresses of each interface of each router
abbrev pub AddressLists : Type 0
AddressLists = List (List (List Addr4))

-- these of the settings of routers
abbrev pub addr_lists : List RouterSettings → AddressLists
addr_lists routers = map (λ r. map (λ i. i.addrs) r.interfaces) routers

-- the first address of an interface
abbrev pub first_addr : AddressLists → ℕ → ℕ → Option Addr4
first_addr lists router iface = slice_get lists router >>= λ ifaces. slice_get ifaces iface >>= λ addrs. slice_get addrs 0

-- a sender, where there is such an interface, with the metric of what it sends
abbrev pub with_metric : Metric → Option Addr4 → List (Addr4 × Metric)
with_metric metric None = []
with_metric metric (Some addr) = (addr, metric) ∷ []

-- an arc that leads to the interface gives the first address of the sending interface, with its metric
abbrev pub sender_by : AddressLists → ℕ → ℕ → RadioArc → List (Addr4 × Metric)
sender_by lists router iface arc =
    if nat_eq arc.to router && nat_eq arc.to_iface iface then with_metric arc.metric (first_addr lists arc.from arc.from_iface) else []

-- the senders of an interface, in order of the arcs
abbrev pub senders_to : AddressLists → List RadioArc → ℕ → ℕ → List (Addr4 × Metric)
senders_to lists arcs router iface = flat_map (sender_by lists router iface) arcs

-- a sender with the metric of what it sends
abbrev pub sender_pair : SenderMetric → Addr4 × Metric
sender_pair s = (s.sender, s.metric)

-- each value has this, with its number, the first of which is `i`
abbrev pub EachAt : {X : Type 0} → (ℕ → X → Type 0) → ℕ → List X → Type 0
EachAt Has i [] = Unit {0}
EachAt Has i (x ∷ xs) = Has i x × EachAt Has (i + 1) xs

-- the interface of that number has its senders, and the metric 1 of its own
abbrev pub HasSenders : AddressLists → List RadioArc → ℕ → ℕ → Interface → Type 0
HasSenders lists arcs router iface x = (map sender_pair x.senders ≡ senders_to lists arcs router iface) × (x.metric.code ≡ 0)

-- the interfaces of a router from a number on have theirs
abbrev pub HaveSenders : AddressLists → List RadioArc → ℕ → ℕ → List Interface → Type 0
HaveSenders lists arcs router iface xs = EachAt (HasSenders lists arcs router) iface xs

-- the routers from number `router` on
abbrev pub HaveAllSenders : AddressLists → List RadioArc → ℕ → List RouterSettings → Type 0
HaveAllSenders lists arcs router rs = EachAt (λ n r. HaveSenders lists arcs n 0 r.interfaces) router rs

-- ---- the qualities of senders

-- each arc with its steps; with none where there are no more
abbrev pub with_steps : List RadioArc → List (List QualityStep) → List (RadioArc × List QualityStep)
with_steps [] steps = []
with_steps (arc ∷ arcs) [] = (arc, []) ∷ with_steps arcs []
with_steps (arc ∷ arcs) (one ∷ steps) = (arc, one) ∷ with_steps arcs steps

-- a sender, where there is such an interface, with the qualities of what it sends
abbrev pub with_quality : List QualityStep → Option Addr4 → List (Addr4 × List QualityStep)
with_quality steps None = []
with_quality steps (Some addr) = (addr, steps) ∷ []

-- an arc that leads to the interface gives the first address of the sending interface, with its steps
abbrev pub quality_by : AddressLists → ℕ → ℕ → RadioArc × List QualityStep → List (Addr4 × List QualityStep)
quality_by lists router iface e =
    if nat_eq e.0.to router && nat_eq e.0.to_iface iface then with_quality e.1 (first_addr lists e.0.from e.0.from_iface) else []

-- the qualities of the senders of an interface, in order of the arcs
abbrev pub qualities_to : AddressLists → List (RadioArc × List QualityStep) → ℕ → ℕ → List (Addr4 × List QualityStep)
qualities_to lists arcs router iface = flat_map (quality_by lists router iface) arcs

-- the interface of that number has the qualities of its senders
abbrev pub HasQualities : AddressLists → List (RadioArc × List QualityStep) → ℕ → ℕ → Interface → Type 0
HasQualities lists arcs router iface x = map quality_pair x.admit.senders ≡ qualities_to lists arcs router iface

-- the interfaces of a router from a number on have theirs
abbrev pub HaveQualities : AddressLists → List (RadioArc × List QualityStep) → ℕ → ℕ → List Interface → Type 0
HaveQualities lists arcs router iface xs = EachAt (HasQualities lists arcs router) iface xs

-- the routers from number `router` on
abbrev pub HaveAllQualities : AddressLists → List (RadioArc × List QualityStep) → ℕ → List RouterSettings → Type 0
HaveAllQualities lists arcs router rs = EachAt (λ n r. HaveQualities lists arcs n 0 r.interfaces) router rs

-- the steps of stated arcs
abbrev pub stated_steps : List StatedArc → List (List QualityStep)
stated_steps arcs = map (λ a. a.steps) arcs

-- the steps of the arc of that number; none where there are no more
abbrev pub steps_at : List (List QualityStep) → ℕ → List QualityStep
steps_at [] number = []
steps_at (one ∷ steps) zero = one
steps_at (one ∷ steps) (suc number) = steps_at steps number

-- no address stands twice among the routers, and no two arcs join the same interfaces
pub record HaveNoDuplicates (routers : List StatedRouter) (arcs : List RadioArc) : Type 0 where
  pub distinct_addrs : are_distinct addr_eq (all_addrs routers) ≡ true
  pub distinct_arcs : are_distinct ends_eq (map ends_of arcs) ≡ true
