-- The tests of relay sets, which compute: each is named for the fact that it tests.
use Rattle.std.specs.Prelude.{ℕ, ◌+◌, Bool, ◌&&◌, ◌||◌, not, List, nat_eq, nat_lt, nat_le}
use Rattle.std.specs.List.{list_any, list_all}
use Rattle.std.specs.Borrow.{Bor}
use Rattle.mesh_atoms.specs.declared.addr.Addr4.{Addr4}
use Rattle.mesh_atoms.specs.declared.graphs.Near.{Near}
use Rattle.mesh_atoms.specs.declared.graphs.Far.{Far}
use Rattle.mesh_atoms.specs.declared.graphs.NeighbourGraph.{NeighbourGraph}
use Rattle.mesh_atoms.specs.Base.{addr_eq}
use Rattle.mesh_relay.specs.declared.sets.Among.{Among}
use Rattle.mesh_relay.specs.declared.sets.Among.TheVariants.{Willing, Relays, Others}

-- the id is in the list
abbrev pub contains : List Addr4 → Addr4 → Bool
contains ids id = list_any (λ r. addr_eq r id) ids

-- the neighbour is in the set
abbrev pub is_in_set : Among → Near → Bool
is_in_set Willing n = not (nat_eq n.will 0)
is_in_set (Relays relays) n = contains relays.now n.id
is_in_set (Others relays id) n = contains relays.now n.id && not (addr_eq n.id id)

-- a neighbour of the set leads by that far entry at no more than that cost
abbrev pub has_way_within : NeighbourGraph → Among → Far → ℕ → Bool
has_way_within g among f most = list_any (λ n. addr_eq n.id f.via && is_in_set among n && nat_le (n.cost + f.cost) most) g.near

-- a direct entry offers the address at no more than that cost
abbrev pub is_direct_within : NeighbourGraph → Addr4 → ℕ → Bool
is_direct_within g y most = list_any (λ d. addr_eq d.addr y && nat_le d.cost most) g.direct

-- the set leads to the address at no more than that cost
abbrev pub is_led_to_within : NeighbourGraph → Among → Addr4 → ℕ → Bool
is_led_to_within g among y most = list_any (λ f. addr_eq f.addr y && has_way_within g among f most) g.far

-- the address is offered at no more than that cost
abbrev pub is_offered_within : NeighbourGraph → Among → Addr4 → ℕ → Bool
is_offered_within g among y most = is_direct_within g y most || is_led_to_within g among y most

-- each offer by that far entry and the other set has one by the set that is no dearer
abbrev pub is_matched : NeighbourGraph → Among → Among → Far → Bool
is_matched g among other f = list_all (λ n. not (addr_eq n.id f.via) || not (is_in_set other n) || is_offered_within g among f.addr (n.cost + f.cost)) g.near

-- by way of the set the address is no dearer than by way of the other set
abbrev pub is_as_cheap : NeighbourGraph → Among → Among → Addr4 → Bool
is_as_cheap g among other y = list_all (λ f. not (addr_eq f.addr y) || is_matched g among other f) g.far

-- by way of the set no address is dearer than by way of all willing neighbours
abbrev pub are_costs_kept : NeighbourGraph → Among → Bool
are_costs_kept g among = list_all (λ f. is_as_cheap g among Willing f.addr) g.far

-- the set has each neighbour of willingness 15
abbrev pub has_always : NeighbourGraph → Among → Bool
has_always g among = list_all (λ n. not (nat_eq n.will 15) || is_in_set among n) g.near

-- the id is a willing neighbour's
abbrev pub is_willing_id : NeighbourGraph → Addr4 → Bool
is_willing_id g id = list_any (λ n. addr_eq n.id id && not (nat_eq n.will 0)) g.near

-- each id is a willing neighbour's
abbrev pub are_willing : NeighbourGraph → List Addr4 → Bool
are_willing g relays = list_all (λ id. is_willing_id g id) relays

-- by way of both sets the address costs the same
abbrev pub has_same_distance : NeighbourGraph → Among → Among → Addr4 → Bool
has_same_distance g among other y = is_as_cheap g among other y && is_as_cheap g other among y

-- a list but for the id; any other set is as it was
abbrev pub without : Among → Addr4 → Among
without Willing id = Willing
without (Relays relays) id = Others relays id
without (Others relays other) id = Others relays other

-- by way of the set some address costs something else than by way of all willing neighbours
abbrev pub is_missed : NeighbourGraph → Among → Bool
is_missed g among = list_any (λ f. not (has_same_distance g among Willing f.addr)) g.far

-- a willing neighbour of willingness below 15
abbrev pub can_be_left_out : Near → Bool
can_be_left_out n = not (nat_eq n.will 0) && nat_lt n.will 15

-- each neighbour of the set that may be left out is missed without it
abbrev pub irredundant : NeighbourGraph → Among → Bool
irredundant g among = list_all (λ n. not (is_in_set among n) || not (can_be_left_out n) || is_missed g (without among n.id)) g.near

-- the relays keep every cost, have each neighbour of willingness 15, and are willing
abbrev pub covers : NeighbourGraph → Bor (List Addr4) → Bool
covers g relays = has_always g (Relays relays) && are_willing g relays.now && are_costs_kept g (Relays relays)

-- two neighbours aren't different ones of one id
abbrev pub are_distinct : Near → Near → Bool
are_distinct m n = not (addr_eq m.id n.id) || (nat_eq m.cost n.cost && nat_eq m.will n.will)

-- the neighbour isn't another one of an id in the graph
abbrev pub is_distinct_from_all : NeighbourGraph → Near → Bool
is_distinct_from_all g m = list_all (λ n. are_distinct m n) g.near

-- an id stands for one neighbour
abbrev pub are_all_distinct : NeighbourGraph → Bool
are_all_distinct g = list_all (λ m. is_distinct_from_all g m) g.near
