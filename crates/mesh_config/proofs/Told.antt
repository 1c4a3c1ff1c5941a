-- What the top calls tell.
use Rattle.mesh_config.proofs.Common.{arith, common_steps, ◌≡◌, ℕ, List, [], map, Option, None, Result, Ok, sym, ap, ◌∙◌, subst, Data, Members, Interface, RadioArc, RouterSettings, Times, StatedArc, StatedInterface, StatedRouter, ConfigFault, Fault, first, listed, ValueOrFault, Each, StepsAre, AreThresholds, TimesIs, interfaces, InterfaceIs, RouterIs, AreRouterFields, stated_interface_fields, ArcIs, AreArcFields, ScenarioIs, scenario_table_visits, routers, arcs, sub_times, stated_arc_fields, arc_ends, scenario_visits, joins, stated_identifiers, arc_places, arc_fields, interface_fields, RouterParts, settings_parts, stated_parts, thresholds_of, threshold_pair, stated_visits, BuiltFrom, stated_steps}
use Rattle.mesh_atoms.specs.declared.settings.Scenario.{Scenario}
use Rattle.mesh_config.specs.declared.stated.stated.StatedScenario.{StatedScenario}
use Rattle.mesh_config.specs.Settings.{InterfaceSays, RouterSays, ArcSays, ScenarioSays}
use Rattle.mesh_config.proofs.Builds.{all_have}
use Rattle.mesh_config.proofs.Said.{all_named_same, places_same}
use Rattle.mesh_config.proofs.StatedLemmas.Elements.{Each-along, Each-map}

pub answers_along : {X : Type 0} (Is Says : X → Type 0) (found found' : Option Fault) (r : Result X ConfigFault) → found' ≡ found → ((x : X) → Is x → Says x) → ValueOrFault Is found r → ValueOrFault Says found' r
answers_along Is Says found found' r same h met = grind (arith, common_steps)

-- an interface, a router, an arc
interfaces_say : (ds : List Data) (xs : List StatedInterface) (ys : List Interface) → map interface_fields ys ≡ map stated_interface_fields xs → Each InterfaceIs ds xs → Each InterfaceSays ds ys
interfaces_say ds xs ys same all = grind (arith, common_steps, Each-along)

pub router_says : (t : Members) (times : Times) (table : Members) (d : StatedRouter) (r : RouterSettings) → TimesIs t times → settings_parts r ≡ stated_parts times d → RouterIs table d → RouterSays t table r
router_says t times table d r timed same is = record {
  are_fields = subst (AreRouterFields table) (sym (ap (λ (p : RouterParts). p.fields) same)) is.is_head.are_fields;
  are_times = subst (TimesIs t) (sym (ap (λ (p : RouterParts). p.times) same)) timed;
  are_interfaces = interfaces_say (listed (interfaces table)) d.interfaces r.interfaces (ap (λ (p : RouterParts). p.interfaces) same) is.are_interfaces;
  admits = all_have (λ (t : ℕ × ℕ). AreThresholds table t.0 t.1) thresholds_of (threshold_pair d.head.rules.thresholds) r.interfaces d.interfaces (ap (λ (p : RouterParts). p.thresholds) same) is.is_head.are_thresholds;
  are_attached = rw (ap (λ (p : RouterParts). p.attached) same) is.are_attached;
}

arc_says : (table : Members) (d : StatedArc) (a : RadioArc) → arc_fields a ≡ stated_arc_fields d → ArcIs table d → ArcSays table a
arc_says table d a same is = subst (AreArcFields table) (sym same) is.are_fields

built_says : (t : Members) (d : StatedScenario) (s : Scenario) → ScenarioIs t d → arc_ends t ≡ joins (map stated_identifiers d.routers) [] (map arc_places d.arcs) → BuiltFrom d s → ScenarioSays t s
built_says t d s is joined built = record {
  is_end = is.are_numbers.is_end ∙ ap Ok (sym built.same_end);
  is_seed = is.are_numbers.is_seed ∙ ap Ok (sym built.same_seed);
  is_loss_until = is.are_numbers.is_loss_until ∙ ap Ok (sym built.same_loss_until);
  are_routers = Each-along RouterIs (RouterSays (sub_times t)) (stated_parts d.times) settings_parts (λ table x y same h. router_says (sub_times t) d.times table x y is.are_times same h) (listed (routers t)) d.routers s.routers built.same_routers is.are_routers;
  are_joined = joined ∙ built.are_joined;
  are_arcs = Each-along ArcIs ArcSays stated_arc_fields arc_fields (λ table x y same h. arc_says table x y same h) (listed (arcs t)) d.arcs s.arcs built.same_arcs is.are_arcs;
  are_senders = built.are_senders;
  steps = stated_steps d.arcs;
  are_steps = Each-map ArcIs StepsAre (λ (a : StatedArc). a.steps) (λ table a h. h.are_steps) (listed (arcs t)) d.arcs is.are_arcs;
  are_qualities = built.are_qualities;
}

-- the tables, and the checks after the walk
pub built_answers : (t : Members) (d : StatedScenario) (r : Result Scenario ConfigFault) → first (scenario_table_visits t) ≡ None → ScenarioIs t d → ValueOrFault (BuiltFrom d) (first (stated_visits d)) r
    → ValueOrFault (ScenarioSays t) (first (scenario_visits t)) r
built_answers t d r passed is met =
    let routers_same = all_named_same (listed (routers t)) d.routers is.are_routers in
    let arcs_same = places_same (listed (arcs t)) d.arcs is.are_arcs in
    let joined : arc_ends t ≡ joins (map stated_identifiers d.routers) [] (map arc_places d.arcs) = rw (routers_same, arcs_same) in
    let same : first (scenario_visits t) ≡ first (stated_visits d) = rw (passed, routers_same, arcs_same) in
    answers_along (BuiltFrom d) (ScenarioSays t) (first (stated_visits d)) (first (scenario_visits t)) r same (λ s built. built_says t d s is joined built) met
