-- The setup of `run` out of what its tables state.
use Rattle.mesh_config.proofs.Common.{arith, common_steps, ◌≡◌, ℕ, List, [], ◌∷◌, map, length, Bool, true, codes, nat_le, le-leb, Option, None, refl, sym, ap, ◌∙◌, lit≤, list_all, and_parts, length-map, map-map, Members, Addr4, Interface, RouterSettings, SenderMetric, Times, addr_eq, are_distinct, are_senders, StatedRouter, Fault, first, listed, interfaces, sub_times, run_table_visits, address, neighbours, StatedNeighbourIs, CostsAre, RunRouterIs, RunIs, Identifiers, tables_in, duplicates, duplicate_unless, stated_identifiers, CostFields, interface_costs, settings_parts, stated_parts, IsClear, CostsSay, SetupSays, SetupFrom, setup_visits, run_checks, the_router, addr_in, neighbour_addrs, stated_costs, same_neighbour, senders_checked, stated_run_checks}
use Rattle.mesh_atoms.specs.declared.settings.RunSetup.{RunSetup}
use Rattle.mesh_config.specs.declared.run_tables.stated.Costs.{Costs}
use Rattle.mesh_config.specs.declared.run_tables.stated.StatedNeighbour.{StatedNeighbour}
use Rattle.mesh_config.specs.declared.run_tables.stated.StatedRun.{StatedRun}
use Rattle.mesh_config.specs.declared.run_tables.stated.StatedRunRouter.{StatedRunRouter}
use Rattle.mesh_config.proofs.ChecksLemmas.Links.{duplicates_same, are_distinct-map}
use Rattle.mesh_config.proofs.Builds.{clear_at}
use Rattle.mesh_config.proofs.KeysLemmas.Parts.{first_one}
use Rattle.mesh_config.proofs.Said.{map_said, named_same}
use Rattle.mesh_config.proofs.StatedLemmas.Elements.{Each-along, Each-map}
use Rattle.mesh_config.proofs.Told.{router_says}

-- ---- the senders that neighbours give
abbrev sender_of : SenderMetric → Addr4
sender_of s = s.sender

abbrev costs_of : List StatedNeighbour → List SenderMetric
costs_of ns = map (λ n. n.cost) ns

addrs_of : (ns : List StatedNeighbour) → map sender_of (costs_of ns) ≡ map (λ n. n.cost.sender) ns
addrs_of ns = map-map sender_of (λ (n : StatedNeighbour). n.cost) ns

pub neighbours_apart : (ns : List StatedNeighbour) → are_distinct same_neighbour ns ≡ true → are_distinct addr_eq (map (λ s. s.sender) (map (λ n. n.cost) ns)) ≡ true
neighbours_apart ns apart = rw (addrs_of ns) (are_distinct-map addr_eq (λ (n : StatedNeighbour). n.cost.sender) ns ∙ apart)

pub neighbours_same : (ns : List StatedNeighbour) → map (λ q. q.sender) (map (λ n. n.quality) ns) ≡ map (λ s. s.sender) (map (λ n. n.cost) ns)
neighbours_same [] = refl
neighbours_same (n ∷ ns) = rw (n.same_sender, neighbours_same ns) refl

senders_right : (cs : List Costs) → senders_checked cs ≡ true → list_all are_senders (map (λ c. map sender_of (costs_of c.neighbours)) cs) ≡ true
senders_right [] h = refl
senders_right (c ∷ cs) h =
    let parts = and_parts (are_distinct same_neighbour c.neighbours) (senders_checked cs) h in
    let few : nat_le (length (map sender_of (costs_of c.neighbours))) 1024 ≡ true = rw (length-map, length-map) (le-leb (length c.neighbours) 1024 c.few_neighbours) in
    rw (few, neighbours_apart c.neighbours parts.0, senders_right cs parts.1)

pub sound_senders : (xs : List Interface) (cs : List Costs) → map interface_costs xs ≡ map stated_costs cs → senders_checked cs ≡ true
    → list_all are_senders (map (λ i. map (λ s. s.sender) i.senders) xs) ≡ true
sound_senders xs cs same h =
    let F : CostFields → List Addr4 = λ f. map sender_of f.1.0 in
    let lists : map (λ (i : Interface). map sender_of i.senders) xs ≡ map (λ (c : Costs). map sender_of (costs_of c.neighbours)) cs =
    sym (map-map F interface_costs xs) ∙ (ap (map F) same ∙ map-map F stated_costs cs) in
    rw lists (senders_right cs h)

-- ---- the checks of the one router
pub clear_one : (d : StatedRouter) → first (duplicates (stated_identifiers d ∷ [])) ≡ None → IsClear d
clear_one d none = clear_at (d ∷ []) 0 d (lit≤ tt) (ap first (sym (duplicates_same (d ∷ []))) ∙ none)

pub last_passed : (found : Option Fault) (b : Bool) (key : List ℕ) → first (found ∷ duplicate_unless b key ∷ []) ≡ None → b ≡ true
last_passed found b key h = grind (arith, common_steps)

-- ---- what the tables say
pub same_count : (times : Times) (d : StatedRouter) (r : RouterSettings) → settings_parts r ≡ stated_parts times d → length d.interfaces ≡ length r.interfaces
same_count times d r same = grind (arith, common_steps)

neighbours_said : (t : Members) (d : Costs) → CostsAre t d → neighbour_addrs t ≡ map (λ n. n.cost.sender) d.neighbours
neighbours_said t d is = map_said StatedNeighbourIs (λ n. addr_in (address n)) (λ (n : StatedNeighbour). n.cost.sender) (λ n s h. rw h.is_cost.is_sender) (listed (neighbours t)) d.neighbours is.are_neighbours

all_distinct_same : (cs : List Costs) → list_all (are_distinct addr_eq) (map (λ c. map (λ n. n.cost.sender) c.neighbours) cs) ≡ senders_checked cs
all_distinct_same [] = refl
all_distinct_same (c ∷ cs) = rw (are_distinct-map addr_eq (λ (n : StatedNeighbour). n.cost.sender) c.neighbours, all_distinct_same cs)

checks_same : (t : Members) (d : StatedRunRouter) → RunRouterIs t d → first (run_checks t) ≡ first (stated_run_checks d)
checks_same t d is =
    let near : map neighbour_addrs (tables_in (interfaces t)) ≡ map (λ c. map (λ n. n.cost.sender) c.neighbours) d.costs =
    map_said CostsAre neighbour_addrs (λ (c : Costs). map (λ n. n.cost.sender) c.neighbours) neighbours_said (listed (interfaces t)) d.costs is.are_costs in
    let senders : list_all (are_distinct addr_eq) (map neighbour_addrs (tables_in (interfaces t))) ≡ senders_checked d.costs =
    ap (list_all (are_distinct addr_eq)) near ∙ all_distinct_same d.costs in
    ap (λ (n : Identifiers). first (first (duplicates (n ∷ [])) ∷ duplicate_unless (list_all (are_distinct addr_eq) (map neighbour_addrs (tables_in (interfaces t)))) (codes "address") ∷ [])) (named_same t d.router is.is_router)
    ∙ ap (λ (b : Bool). first (first (duplicates (stated_identifiers d.router ∷ [])) ∷ duplicate_unless b (codes "address") ∷ [])) senders

pub setup_same : (t : Members) (d : StatedRun) → first (run_table_visits t) ≡ None → RunIs t d → first (setup_visits t) ≡ first (stated_run_checks d.router)
setup_same t d passed is = rw (passed, first_one (first (run_checks (the_router t)))) (checks_same (the_router t) d.router is.is_router)

costs_say : (t : Members) (d : Costs) (i : Interface) → interface_costs i ≡ stated_costs d → CostsAre t d → CostsSay t i
costs_say t d i same is = grind (arith, common_steps, Each-map, listed)

pub setup_says : (t : Members) (d : StatedRun) (s : RunSetup) → RunIs t d → SetupFrom d s → SetupSays t s
setup_says t d s is from = record {
  is_end = rw from.same_end is.is_end;
  is_router = router_says (sub_times t) d.times (the_router t) d.router.router s.router is.are_times from.is_router.same_parts is.is_router.is_router;
  are_costs = Each-along CostsAre CostsSay stated_costs interface_costs (λ table x y same h. costs_say table x y same h) (listed (interfaces (the_router t))) d.router.costs s.router.interfaces from.is_router.same_costs is.is_router.are_costs;
  are_ports = rw from.same_ports is.is_router.are_ports;
}
